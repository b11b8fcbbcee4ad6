-- The parts of an accepted schedule, one after another.
use Rattle.std.proofs.Common.{◌≡◌, ◌≢◌, ℕ, fold, ◌∙◌, ap, eq-eqb}
use Rattle.std.proofs.lemmas.Bool.{ne_eqb}
use Rattle.lwb_base.specs.Messages.{Schedule}
use Rattle.bus_rules.specs.Streams.{Streams, heard_host, acknowledged, owner_named, after_forgetting, schedule_heard}

module _ (node boot frame : ℕ) (s : Schedule) (before known answered named : Streams)
    (first : known ≡ heard_host s.plan.rank s.plan.boot before)
    (second : answered ≡ fold (acknowledged node boot frame) known s.plan.acks)
    (third : named ≡ fold (owner_named node frame) answered s.plan.owners) where
  parts : named ≡ fold (owner_named node frame) (fold (acknowledged node boot frame) (heard_host s.plan.rank s.plan.boot before) s.plan.acks) s.plan.owners
  parts =
      third ∙ ap (λ (x : Streams). fold (owner_named node frame) x s.plan.owners)
      (second ∙ ap (λ (x : Streams). fold (acknowledged node boot frame) x s.plan.acks) first)

  pub opening_heard : s.gap ≡ 0 → named ≡ schedule_heard node boot frame s before
  unfolding schedule_heard
  opening_heard is = rw (eq-eqb s.gap 0 is) parts

  pub closing_heard : (after : Streams) → s.gap ≢ 0 → after ≡ after_forgetting frame named → after ≡ schedule_heard node boot frame s before
  unfolding schedule_heard
  closing_heard after not fourth = rw (ne_eqb s.gap 0 not) (fourth ∙ ap (after_forgetting frame) parts)
