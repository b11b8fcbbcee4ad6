use Rattle.std.proofs.Common.{rules, of_calls, ◌≡◌, ℕ, List, [], ◌∷◌, ◌++◌, OnOk, codes, string_bytes, subst}
use Rattle.text_writers.specs.Lines.{line_text, numbered}
use Rattle.scenario_text.proofs.CanonicalParts.{hosts_by_rank}
use Rattle.scenario_text.proofs.list_writers.write_hosts.Goals as goal

pub returns : goal.returns
returns c =
    let wrote = c.write_lines_in_places in
    subst (λ (l : List ℕ). OnOk wrote.result (string_bytes wrote.new.text ≡ string_bytes c.args.text.now ++ l)) (hosts_by_rank 0 c.args.hosts.now)
    (wrote.ensures (λ (p : ℕ × ℕ). line_text (numbered (codes "host") (p.0 ∷ p.1 ∷ []))) (λ old place item result new below at post. search (rules, of_calls)))
