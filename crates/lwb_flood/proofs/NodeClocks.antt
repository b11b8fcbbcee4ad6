-- The clocks of nodes keep the drift law, and what is said of a log over them.
use Rattle.std.proofs.Common.{◌≡◌, ℕ, ◌≤◌, List, [], ◌∷◌, Bool, true, false, ◌||◌, ◌==◌, if◌then◌else◌, length, sym, subst, arith}
use Rattle.std.proofs.lemmas.Bool.{false≢true}
use Rattle.tick_clock.specs.Clocks.{IsClock}
use Rattle.scenario_text.specs.FloodParts.{FloodParts, IsSound, knows}
use Rattle.scenario_text.specs.declared.lines.NodeLine.{NodeLine}
use Rattle.air_log.specs.declared.entry.Entry.{Entry}
use Rattle.air_log.specs.FloodLaw.{FloodLaw, IsRelay}
use Rattle.scenario_clocks.specs.ClockLists.{clocks_by}
use Rattle.scenario_clocks.specs.StatedClocks.{stated_clock}
use Rattle.scenario_clocks.proofs.StatedDrift.{stated_drift}
use Rattle.lwb_flood.specs.FloodLog.{HasClocks}

-- clocks that are in a list
pub listed_drift : {C : Type 0} (R : C → ℕ → ℕ) → ((c : C) → IsClock (R c)) → (ns : List NodeLine) (cs : List C) → length cs ≡ length ns → (v : ℕ)
    → knows ns v ≡ true
    → IsClock (clocks_by R ns cs v)
listed_drift R law [] cs long v known = absurd (false≢true known)
listed_drift R law (n ∷ ns) [] long v known = absurd (omega (arith, long))
listed_drift {C} R law (n ∷ ns) (c ∷ cs) long v known = by_test (n.node == v) known (λ later. listed_drift R law ns cs (omega (arith, long)) v later)
  where
    by_test : (b : Bool) → (b || knows ns v) ≡ true → (knows ns v ≡ true → IsClock (clocks_by R ns cs v)) → IsClock (if b then R c else clocks_by R ns cs v)
    by_test true known others = law c
    by_test false known others = others known

pub listed_clocks : {C : Type 0} (R : C → ℕ → ℕ) → ((c : C) → IsClock (R c)) → (f : FloodParts) (cs : List C) → length cs ≡ length f.nodes → IsSound f
    → (1 ≤ f.start) × (f.start ≤ 200)
    → HasClocks f (clocks_by R f.nodes cs)
listed_clocks R law f cs long sound start = record { sound = sound; start = start; drift = listed_drift R law f.nodes cs long }

-- clocks that a text states
pub stated_clocks : (f : FloodParts) → IsSound f → (1 ≤ f.start) × (f.start ≤ 200) → HasClocks f (stated_clock f)
stated_clocks f sound start = record {
  sound = sound;
  start = start;
  drift = stated_drift f.nodes f.rates (record { offsets = sound.offsets; ascend = sound.rates_ascend; early = sound.rates_early; small = sound.rates_small });
}

-- a log over clocks that read the same
pub same_clocks : (f : FloodParts) (clocks others : ℕ → ℕ → ℕ) (air : List Entry) → ((v : ℕ) → clocks v ≡ others v) → FloodLaw f clocks air
    → FloodLaw f others air
same_clocks f clocks others air same law = record {
  once = law.once;
  events = law.events;
  happened = law.happened;
  known = law.known;
  tuned = law.tuned;
  begun = law.begun;
  lasts = law.lasts;
  hears = law.hears;
  relayed = λ x here last relay. law.relayed x here last (subst (λ (clock : ℕ → ℕ). IsRelay f clock (law.events x.node) x) (sym (same x.node)) relay);
  relays = λ x sent other. subst (λ (clock : ℕ → ℕ). IsRelay f clock (law.events x.node) x) (same x.node) (law.relays x sent other);
}
