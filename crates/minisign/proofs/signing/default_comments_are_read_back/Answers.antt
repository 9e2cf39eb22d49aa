-- Proves the goal of `default_comments_are_read_back` that the prover leaves open.
use Rattle.std.proofs.Common.{arith, ℕ, ◌^◌, ◌<◌, List, [], ◌∷◌, None, codes, refl}
use Rattle.std.specs.Str.Parse.{AllDigits}
use Rattle.std.proofs.lemmas.Fmt.{decimal_is_IsNumeral}
use Rattle.std.proofs.lemmas.Str.Parse.{digit_from_value}
use Rattle.minisign.specs.Signing.{AreChosenReadBack, given_comments, default_trusted_comment}
use Rattle.minisign.specs.Signing.{default_untrusted_comment}
use Rattle.minisign.proofs.WrittenLines.{AllGraphic, each_append, graphic_codes, trim_graphic}
use Rattle.minisign.proofs.WrittenLines.{lacks_controls_codes, lacks_controls_graphic}
use Rattle.minisign.proofs.WrittenLines.{one_line_without_controls}
use Rattle.minisign.proofs.signing.default_comments_are_read_back.Goals as goal

graphic_digits : (ds : List ℕ) → AllDigits 10 ds → AllGraphic ds
graphic_digits [] d = tt
graphic_digits (c ∷ cs) d =
    ((omega (arith, digit_from_value c d.0), omega (arith, digit_from_value c d.0)), graphic_digits cs d.1)

graphic_unix_time : (unix_time : ℕ) → unix_time < 2 ^ 64 → AllGraphic (default_trusted_comment unix_time)
unfolding default_trusted_comment
graphic_unix_time unix_time small =
    each_append _ (codes "timestamp:") _ (graphic_codes (codes "timestamp:") refl)
    (graphic_digits _ (decimal_is_IsNumeral unix_time small).0.1)

defaults_kept : (unix_time : ℕ) → unix_time < 2 ^ 64 → AreChosenReadBack (given_comments None None unix_time)
unfolding default_untrusted_comment
defaults_kept _ small =
    let graphic = graphic_unix_time _ small in
    let trusted = one_line_without_controls _ (lacks_controls_graphic _ graphic) in
    let untrusted =
    one_line_without_controls default_untrusted_comment
    (lacks_controls_codes default_untrusted_comment refl) in
    record {
      one_line = record {
        untrusted_one_line = untrusted.no_feed;
        trusted_one_line = trusted.no_feed;
        trusted_trimmed = trim_graphic _ graphic;
      };
      untrusted_end = untrusted.no_return;
    }

pub returns : goal.returns
returns c = defaults_kept _ (omega (arith, c.ranges.unix_time))
