-- What a node's flood is at the beginning of a step, and what an event makes of it.
use Rattle.std.proofs.Common.{◌≡◌, ℕ, ◌+◌, List, Bool, true, false, if◌then◌else◌, Option, Some, None, is_some, option_map, refl, sym, ◌∙◌, ap, add-zero}
use Rattle.std.proofs.Common.{nat_lt, arith, inl, inr}
use Rattle.std.proofs.lemmas.Bool.{cases_lt, lt-ltb, le-ltb}
use Rattle.lwb_packets.specs.declared.kind.Kind.{Kind}
use Rattle.glossy_relay.specs.FloodState.{FloodState}
use Rattle.glossy_relay.specs.Relaying.{fits, counter_of, first_of, after_heard, after_sent}
use Rattle.bus_terms.specs.Flooding.{Moment, has, first_heard, STEPS}
use Rattle.lwb_flood.specs.FloodRun.{Run, packet}

-- there is a next step
pub early_is : (k : ℕ) → nat_lt (k + 1) STEPS ≡ nat_lt k 11
early_is k = elim (cases_lt k 11) [
  | inl less ↦ lt-ltb (k + 1) 12 (omega arith) ∙ sym (lt-ltb k 11 less)
  | inr more ↦ le-ltb (k + 1) 12 (omega arith) ∙ sym (le-ltb k 11 more)
]

abbrev pub of_parts : (kind : Kind) (limit slot : ℕ) (begun : Bool) (message : List ℕ) (spell : ℕ × ℕ → List ℕ) (times : ℕ) (sends : Option ℕ)
    (heard : Option (ℕ × ℕ)) → FloodState
of_parts kind limit slot begun message spell times sends heard = record {
  kind = kind;
  slot = slot;
  limit = limit;
  sent = times;
  waiting = is_some sends;
  initiated = begun;
  first = if begun then Some message else option_map spell heard;
}

abbrev pub spell : Run → ℕ × ℕ → List ℕ
spell r h = packet r h.0 h.1

-- a node's flood by what the flood by steps says of it
abbrev pub station : Run → Moment → ℕ → FloodState
station r m v = of_parts r.kind r.setting.limit r.slot (has r.setting.initiators v) (r.message v) (spell r) (m.times v) (m.sends v) (m.heard v)

module _ (kind : Kind) (limit slot : ℕ) (begun : Bool) (message : List ℕ) (spelled : ℕ × ℕ → List ℕ) (times k : ℕ) where
  abbrev at : Option ℕ → Option (ℕ × ℕ) → FloodState
  at sends heard = of_parts kind limit slot begun message spelled times sends heard

  abbrev then_at : Bool → Option ℕ → Option ℕ → Option (ℕ × ℕ) → FloodState
  then_at early sends hears heard = of_parts kind limit slot begun message spelled (times + (if is_some sends then 1 else 0))
      (if early then hears else None) (first_heard heard k hears)

  pub quiet_state : (early : Bool) (heard : Option (ℕ × ℕ)) → at None heard ≡ then_at early None None heard
  quiet_state true None = rw add-zero refl
  quiet_state true (Some h) = rw add-zero refl
  quiet_state false None = rw add-zero refl
  quiet_state false (Some h) = rw add-zero refl

  pub ended_state : (early : Bool) (o : ℕ) (heard : Option (ℕ × ℕ)) → after_sent (at (Some o) heard) ≡ then_at early (Some o) None heard
  ended_state true o None = refl
  ended_state true o (Some h) = refl
  ended_state false o None = refl
  ended_state false o (Some h) = refl

  abbrev kept : Bool → FloodState → List ℕ → Bool → FloodState
  kept fitting s p early = if fitting then record s { waiting = early; first = first_of s.first p } else s

  first_is : (b : Bool) (o : ℕ) (heard : Option (ℕ × ℕ))
      → first_of (if b then Some message else option_map spelled heard)
      (spelled (o, k)) ≡ (if b then Some message else option_map spelled (first_heard heard k (Some o)))
  first_is true o heard = refl
  first_is false o None = refl
  first_is false o (Some h) = refl

  heard_by_cases : (fitting early : Bool) (o : ℕ) (heard : Option (ℕ × ℕ))
      → kept fitting (at None heard) (spelled (o, k)) early ≡ then_at early None (if fitting then Some o else None) heard
  heard_by_cases false early o heard = quiet_state early heard
  heard_by_cases true true o heard = rw (add-zero, first_is begun o heard) refl
  heard_by_cases true false o heard = rw (add-zero, first_is begun o heard) refl

  pub heard_state : (p : List ℕ) (o : ℕ) (heard : Option (ℕ × ℕ)) → p ≡ spelled (o, k) → counter_of p ≡ k
      → after_heard (at None heard) p ≡ then_at (nat_lt (k + 1) STEPS) None (if fits (at None heard) p then Some o else None) heard
  heard_state p o heard is number =
      ap (λ (b : Bool). kept (fits (at None heard) p) (at None heard) p b) (ap (λ (i : ℕ). nat_lt i 11) number)
      ∙ ap (λ (b : Bool). kept (fits (at None heard) p) (at None heard) p b) (sym (early_is k))
      ∙ ap (λ (q : List ℕ). kept (fits (at None heard) p) (at None heard) q (nat_lt (k + 1) STEPS)) is
      ∙ heard_by_cases (fits (at None heard) p) (nat_lt (k + 1) STEPS) o heard
