-- Re-exports the names of std and of the lower crates that the proofs of this crate use.
use Rattle.minisign_base.specs.declared.faults.NamedFault.TheVariants as named
pub use Rattle.base64.proofs.EngineFacts.{decode_of-encode_of, decode_of_strict, encode_of-append}
pub use Rattle.base64.proofs.EngineFacts.{front_bytes}
pub use Rattle.base64.proofs.RoundTrip.{length-encode_symbols}
pub use Rattle.base64.specs.Engines.{standard}
pub use Rattle.base64.specs.GeneralPurpose.{IsBytes, IsDecodeFailure, decode_of, decode_slice_of}
pub use Rattle.base64.specs.GeneralPurpose.{decoded_bytes_of}
pub use Rattle.base64.specs.Rfc4648.{padding_len, unpadded_len}
unfoldable pub use Rattle.base64.specs.Rfc4648.{encode_symbols}
pub use Rattle.minisign_base.proofs.Laws.{AppendsPrefix-after, AppendsPrefix-keeps, AppendsPrefix-more}
pub use Rattle.minisign_base.proofs.Laws.{first_stopped, second_ended, second_ends, stopped_first, typed_is}
pub use Rattle.minisign_base.specs.DeviceCalls.{IsSteady, FlushesNothing, IsWritingFault, Marks, PromptCall}
pub use Rattle.minisign_base.specs.DeviceCalls.{RandomCall, RereaderCall, SinkCall, SinkFails}
pub use Rattle.minisign_base.specs.DeviceCalls.{SinkHasNoNewFault, SourceCall, SourceFails}
pub use Rattle.minisign_base.specs.DeviceCalls.{SourceHasNoNewFault, SinkReceives, SinkReceivesPrefix}
pub use Rattle.minisign_base.specs.DeviceCalls.{prompt_call}
pub use Rattle.minisign_base.specs.DeviceCalls.{random_call, rereader_call, sink_call, no_sink}
pub use Rattle.minisign_base.specs.Devices.{AppendsPrefix, PrefixIsRemoved, ErrorCountRises}
pub use Rattle.minisign_base.specs.Devices.{EqualIfSecondKnown}
pub use Rattle.minisign_base.specs.Fault.{Fault, Named}
unfoldable pub use Rattle.minisign_base.specs.KeyIds.{key_id_text}
pub use Rattle.minisign_base.specs.Limits.{sealing_limits}
unfoldable pub use Rattle.minisign_base.specs.Limits.{cost_log2, limits, numbers}
pub use Rattle.minisign_base.specs.Passwords.{typed_password}
unfoldable pub use Rattle.minisign_base.specs.Passwords.{accepted_line, first_line, password_of}
pub use Rattle.minisign_base.specs.Prompts.{ConversationEnds, Say, StepEnds, Test, asking_steps, written}
pub use Rattle.minisign_base.specs.Steps.{StepsEnd, without_value}
pub use Rattle.minisign_base.specs.declared.faults.NamedFault.{NamedFault}
pub use named.{BarePublicKeyLength, BarePublicKeyNotBase64, GoingBackFailed, OutOfMemory, PasswordsDiffer}
pub use named.{RecordTooShort, RefusedByGivenKey, SecretKeyNotBase64, SignatureBoxIncomplete}
pub use named.{SignatureNotBase64, SignatureRefused, TrustedCommentPrefix, UnsupportedSignatureAlgorithm}
pub use named.{UntrustedCommentPrefix, WorkTooHigh}
unfoldable pub use Rattle.minisign_hash.specs.Blake2b.{blake2b_digest, compress, iv, mix, padded_block}
unfoldable pub use Rattle.minisign_hash.specs.Blake2b.{round, rounds, sigma, state_after, work_vector}
pub use Rattle.minisign_hash.specs.Fed.{IsFed, has_finalized, output_length}
pub use Rattle.minisign_kdf.specs.Params.{Numbers}
pub use Rattle.std.proofs.KnownBytes.{Appends-trans, Consumes-trans}
pub use Rattle.std.proofs.Math.Seq.{drop-append_seam, get_or-append_right, take-append-add, take-append_seam}
pub use Rattle.std.proofs.lemmas.Bool.{and_parts, cases_lt, false_from_ne_true, lt-leb, or_cases, or_left}
pub use Rattle.std.proofs.lemmas.Bool.{or_right}
pub use Rattle.std.proofs.lemmas.Bool.Decides.{Decides-eqb, nat_tests}
pub use Rattle.std.proofs.lemmas.Grind.{common_steps, flat_map-append}
pub use Rattle.std.proofs.lemmas.List.{get_or_default, length-replicate, nil_from_length, take_more}
pub use Rattle.std.proofs.lemmas.List.{take_more_set}
pub use Rattle.std.proofs.lemmas.Result.{IfErr-weaker, IfOk-weaker, MatchResult-weaker}
pub use Rattle.std.proofs.lemmas.Simd.{get_or-zip2, length-zip2}
pub use Rattle.std.proofs.lemmas.Slice.Eq.{bytes_eq-Decides, starts_is}
pub use Rattle.std.specs.Fmt.{HasWritten, IsPlainFormatter, digit_glyph, digits_onto, format_spec}
unfoldable pub use Rattle.std.specs.Fmt.{digits, padded_integral}
pub use Rattle.std.specs.Int.{IsInRange, from_le_bytes, to_le_bytes}
pub use Rattle.std.specs.Io.KnownBytes.{Appends, Consumes, IsAtEnd, Keeps, append_known}
pub use Rattle.std.specs.List.{AllByRecursion, slice_split, starts_with}
pub use Rattle.std.specs.Option.{option_map_or}
pub use Rattle.std.specs.Prelude.{⊤}
pub use Rattle.std.specs.Result.{result_err, result_ok}
pub use Rattle.std.specs.Simd.Lanes.{zip2}
pub use Rattle.std.specs.Str.{NoCharPasses, chars_after, drop_trailing_whitespace, skip_leading_whitespace}
pub use Rattle.std.specs.Str.{trim}
unfoldable pub use Rattle.std.specs.Str.{chars, is_utf8, trim_end, trim_start}
pub use Rattle.std.specs.Str.Iter.{LacksByte}
pub use Rattle.std.specs.Str.Lines.{IsFirstLine, StripsCarriageReturn, lines, lines_of_parts}
pub use Rattle.std.specs.Str.Lines.{strip_carriage_return}
