use Rattle.std.proofs.Common.{rules, of_calls, ◌≡◌, ◌++◌, OnOk, string_bytes, Bor, List, ℕ, subst, sym}
use Rattle.air_log.specs.LogText.{entry_line}
use Rattle.air_log.specs.declared.entry.Entry.{Entry}
use Rattle.std.proofs.lemmas.List.Folds.{flat_map-map}
use Rattle.air_log.proofs.printing.write_entries.Goals as goal

pub returns : goal.returns
returns c =
    let wrote = c.write_lines in
    subst (λ (l : List ℕ). OnOk wrote.result (string_bytes wrote.new.text ≡ string_bytes c.args.text.now ++ l))
    (sym (flat_map-map entry_line (λ (e : Bor Entry). e.now) c.args.entries.now))
    (wrote.ensures (λ (e : Bor Entry). entry_line e.now) (λ old item result new here post. search (rules, of_calls, post)))
