-- Proves the goal of `path_beside` that the prover leaves open.
use Rattle.std.proofs.Common.{◌∙◌, ◌++◌, ap, codes, drop, inr, lit<, sym, take}
use Rattle.std.proofs.lemmas.List.{append_assoc, take-append-drop}
use Rattle.std.proofs.lemmas.Result.{IfOk-weaker}
use Rattle.std.proofs.lemmas.Str.{encode_ascii}
use Rattle.minisign_tool.proofs.replacing.path_beside.Goals as goal

-- The directory is the path before the last slash.
pub returns-in-Some-clause-joined : goal.returns-in-Some-clause-joined
returns-in-Some-clause-joined c =
    let (i, j, (none_after, found), front, back, order, length_of_front, length_of_back) =
    c.in-Some.ensures.cases in
    let path = c.args.path.now in
    let after_slash = drop j path in
    let split = found.split ∙ ap (λ slash. slash ++ after_slash) (encode_ascii 47 (lit< tt)) in
    IfOk-weaker c.path_in.result _ _
    (λ joined is. inr (
      c.in-Some.directory.now,
      after_slash,
      sym (take-append-drop i path) ∙ ap (λ rest. take i path ++ rest) split
          ∙ sym (append_assoc (take i path) (codes "/") after_slash)
          ∙ ap (λ directory. directory ++ codes "/" ++ after_slash) (sym front),
      is,
    ))
    c.path_in.ensures.joined
