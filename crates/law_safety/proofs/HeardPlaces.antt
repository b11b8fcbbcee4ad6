-- Where a node is that receives: its frame is the true one, and its radio is at the channel of what it receives.
use Rattle.std.proofs.Common.{◌≡◌, ℕ, suc, ◌/◌, ◌<◌, List, Bool, true, false, ◌&&◌, if◌then◌else◌, Some, None, Option, is_some, unwrap_or}
use Rattle.std.proofs.Common.{true≢false, eqb-true, inl, inr, refl, sym, ◌∙◌, ap, subst, arith}
use Rattle.std.specs.Prelude.{slice_index}
use Rattle.std.proofs.lemmas.Bool.{false≢true}
use Rattle.node_core.specs.Nodes.{Node}
use Rattle.scenario_text.specs.ScenarioParts.{ScenarioParts}
use Rattle.air_log.specs.declared.entry.Entry.{Entry}
use Rattle.air_log.specs.Devices.{Device, OrderedPacket, Listening, listens_to}
use Rattle.air_log.specs.Trails.{Reception, frame_start}
use Rattle.law_trails.specs.Obeying.{channel_if_on}
use Rattle.law_safety.specs.BegunFloods.{IsFirstOrdered}
use Rattle.law_safety.specs.NodesInOrder.{IsOn}
use Rattle.law_safety.specs.KnownInRows.{IsHeardNow}

-- when a window takes a reference
pub taken : {A : Type 0} (p : Bool) (x y : A) → p ≡ true → (if p && true && true && true then x else y) ≡ x
taken true x y is = refl
taken false x y is = absurd (false≢true is)

pub left : {A : Type 0} (p : Bool) (x y : A) → (if p && true && false && true then x else y) ≡ y
left true x y = refl
left false x y = refl

pub unheard : {A : Type 0} (p a b : Bool) (x y : A) → (if p && false && a && b then x else y) ≡ y
unheard true a b x y = refl
unheard false a b x y = refl

-- the channel of a radio that listens to a rank
pub listened : (l : Option Listening) (r x : ℕ) → channel_if_on l ≡ Some x → listens_to r l ≡ true → x ≡ r
listened None r x is on = absurd (false≢true on)
listened (Some l) r x is on = let same : l.rank ≡ x = ap (λ (o : Option ℕ). unwrap_or o 0) is in sym same ∙ eqb-true l.rank r on

pub silent : (l : Option Listening) (x : ℕ) → channel_if_on l ≡ Some x → l ≡ None → ⊥
silent None x is none = false≢true (ap (λ (o : Option ℕ). is_some o) is)
silent (Some l) x is none = true≢false (ap (λ (o : Option Listening). is_some o) none)

pub not_first : (o : Option OrderedPacket) → is_some o ≡ false → IsFirstOrdered o → ⊥
not_first None is first = first
not_first (Some o) is first = true≢false is

-- a flood that was begun here, or has no packet, accepted none
pub none_accepted : (p : List ℕ) → ◌≡◌ {A = Option (List ℕ × ℕ)} None (Some (p, slice_index p 2)) → ⊥
none_accepted p is = false≢true (ap (λ (o : Option (List ℕ × ℕ)). is_some o) is)

module _ (s : ScenarioParts) (clocks : ℕ → ℕ → ℕ) (air : List Entry) (v t : ℕ) (h : Reception) (d : Device) (now : IsHeardNow s clocks air v t h d)
    (n : Node) (known : IsOn s clocks air v t (suc t) d n) where
  -- no alarm of the frame is past while something is received
  pub frame_now : n.frame ≡ t / s.profile.frame
  frame_now = elim known.frame.at [ inl is ↦ is | inr over ↦ (let past = over.past in let early = now.early in absurd (omega (arith, past, early))) ]

  pub began_now : frame_start s n.frame < t
  began_now = subst (λ (f : ℕ). frame_start s f < t) (sym frame_now) now.began
