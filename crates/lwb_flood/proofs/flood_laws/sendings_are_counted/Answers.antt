use Rattle.std.proofs.Common.{◌≡◌, ◌∙◌, ℕ, true, length}
use Rattle.std.specs.Prelude.{AllPairs, ◌≢◌}
use Rattle.bus_terms.specs.Flooding.{sendings}
use Rattle.bus_terms.proofs.SendingCounts.{all_sendings}
use Rattle.radio_model.specs.declared.sending.Sending.{Sending}
use Rattle.radio_model.specs.Hearing.{TunedThrough}
use Rattle.lwb_base.proofs.Elements.{distinct_from_pairs}
use Rattle.lwb_flood.specs.FloodRun.{Run, FloodRun}
use Rattle.lwb_flood.proofs.SendingCounts.{count}
use Rattle.lwb_flood.proofs.flood_laws.sendings_are_counted.Goals as goal

counted : (r : Run) (Tuned : ℕ → Sending → Type 0) → FloodRun r Tuned → AllPairs (λ x y. x ≢ y) r.sendings → AllPairs (λ u v. u ≢ v) r.setting.everyone
    → length r.sendings ≡ sendings r.setting
counted r Tuned f once nodes = count r Tuned f (distinct_from_pairs r.sendings once) (distinct_from_pairs r.setting.everyone nodes)
    ∙ all_sendings r.setting r.setting.everyone

pub returns : goal.returns
returns c = record { scene = λ a r. counted r (TunedThrough a); test = λ r tuned. counted r (λ v x. tuned v x ≡ true) }
