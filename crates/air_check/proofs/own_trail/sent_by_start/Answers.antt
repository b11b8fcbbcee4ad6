use Rattle.std.proofs.Common.{ℕ, rules}
use Rattle.std.proofs.lemmas.List.Sorted.{IsNonDecreasingBy-from_sort_by_key}
use Rattle.radio_model.specs.declared.sending.Sending.{Sending}
use Rattle.air_check.proofs.own_trail.sent_by_start.Goals as goal

abbrev start : Sending → ℕ
start x = x.start

pub returns-clause-rises : goal.returns-clause-rises
returns-clause-rises c = IsNonDecreasingBy-from_sort_by_key start _ c.in_ok-sort_by_key.ensures.sorted (λ a r q k. search rules)
