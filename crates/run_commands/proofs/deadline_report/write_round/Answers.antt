use Rattle.std.proofs.Common.{List, ℕ, ◌++◌, ◌∷◌, codes, decimal, map, string_bytes, take, sym, ◌∙◌, ap, arith}
use Rattle.std.specs.List.{join_with_byte}
use Rattle.std.proofs.lemmas.List.{append_assoc}
use Rattle.run_commands.proofs.ReportLines.{owner_more}
use Rattle.run_commands.proofs.deadline_report.write_round.Goals as goal

pub loop-place-preserved : goal.loop-place-preserved
loop-place-preserved c =
    let owners = c.args.owners.now in
    let i = c.loop-place.place in
    let code = c.code_at.result in
    let old = string_bytes c.args.text.now in
    c.in_ok-write_number.ensures
    ∙ ap (λ (l : List ℕ). l ++ 32 ∷ decimal code) c.loop-place.invariant
    ∙ append_assoc old (join_with_byte 32 (codes "round" ∷ map decimal (c.args.frame ∷ take i owners))) (32 ∷ decimal code)
    ∙ ap (λ (l : List ℕ). old ++ l) (sym (owner_more (codes "round") c.args.frame i owners code (omega arith) c.code_at.ensures))
