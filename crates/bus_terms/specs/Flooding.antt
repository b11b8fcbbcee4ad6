-- One flood by steps: who sends and who receives in each of them.
-- An origin is an initiator, named by its node. What its message says does not matter here: whoever uses a flood keeps the message of each origin.
use Rattle.std.specs.Prelude.{◌≡◌, ◌<◌, ℕ, zero, suc, ◌+◌, List, [], ◌∷◌, Bool, true, false, not, ◌&&◌, ◌||◌, ◌==◌, nat_lt}
use Rattle.std.specs.Prelude.{if◌then◌else◌, is_none, is_some, Some, None, filter_map, option_and_then, count_by, sum_by}
use Rattle.std.specs.declared.option.Option.{Option}
use Rattle.std.specs.List.{list_any, list_all}
use Rattle.lwb_base.specs.declared.limits.TheConstants.{FLOOD_STEPS}

-- the most transmissions of a node; whether the link from u to v passes in step k (k, u, v); whom the capture line of step k at v names; the
-- initiators; all that take part, initiators and listeners
pub record Setting : Type 0 where
  pub limit : ℕ
  pub passes : ℕ → ℕ → ℕ → Bool
  pub captured : ℕ → ℕ → Option ℕ
  pub initiators : List ℕ
  pub everyone : List ℕ

-- the beginning of a step: the origin that a node sends in it, how often it has sent before, and the first origin that it received, with the step
pub record Moment : Type 0 where
  pub sends : ℕ → Option ℕ
  pub times : ℕ → ℕ
  pub heard : ℕ → Option (ℕ × ℕ)

-- a flood has the steps below this
abbrev pub STEPS : ℕ
STEPS = FLOOD_STEPS

abbrev pub has : List ℕ → ℕ → Bool
has xs v = list_any (λ x. x == v) xs

-- what u sends over its link to v, if that passes
abbrev pub offer : Setting → Moment → ℕ → ℕ → ℕ → Option ℕ
offer s m k v u = if s.passes k u v then m.sends u else None

-- the origins that reach v
abbrev pub candidates : Setting → Moment → ℕ → ℕ → List ℕ
candidates s m k v = filter_map (offer s m k v) s.everyone

-- the origin sent by the node that the capture line names
abbrev pub named : Setting → Moment → ℕ → ℕ → Option ℕ
named s m k v = option_and_then (offer s m k v) (s.captured k v)

-- the only one of several that are all the same, else another
abbrev pub only_one : List ℕ → Option ℕ → Option ℕ
only_one [] other = None
only_one (o ∷ os) other = if list_all (λ x. x == o) os then Some o else other

abbrev pub pick : Setting → Moment → ℕ → ℕ → Option ℕ
pick s m k v = only_one (candidates s m k v) (named s m k v)

-- v takes part, does not send in this step, and has sent less often than the limit
abbrev pub may_hear : Setting → Moment → ℕ → Bool
may_hear s m v = has s.everyone v && is_none (m.sends v) && nat_lt (m.times v) s.limit

-- v has received nothing, or this origin
abbrev pub agrees : Option (ℕ × ℕ) → ℕ → Bool
agrees None o = true
agrees (Some h) o = h.0 == o

-- the origin may be received: v is no initiator other than it, and has received no other
abbrev pub takes : Setting → Moment → ℕ → ℕ → Bool
takes s m v o = (not (has s.initiators v) || (v == o)) && agrees (m.heard v) o

abbrev pub hears : Setting → Moment → ℕ → ℕ → Option ℕ
hears s m k v = if may_hear s m v then option_and_then (λ o. if takes s m v o then Some o else None) (pick s m k v) else None

-- the first that was received
abbrev pub first_heard : Option (ℕ × ℕ) → ℕ → Option ℕ → Option (ℕ × ℕ)
first_heard (Some h) k now = Some h
first_heard None k None = None
first_heard None k (Some o) = Some (o, k)

-- what is received in step k is sent in step k + 1, if there is one
abbrev pub next : Setting → ℕ → Moment → Moment
next s k m = record {
  sends = λ v. if nat_lt (k + 1) STEPS then hears s m k v else None;
  times = λ v. m.times v + (if is_some (m.sends v) then 1 else 0);
  heard = λ v. first_heard (m.heard v) k (hears s m k v);
}

-- in step 0 each initiator sends
abbrev pub beginning : Setting → Moment
beginning s = record { sends = λ v. if has s.initiators v then Some v else None; times = λ v. 0; heard = λ v. None }

-- the beginning of step k
unfoldable pub moment : Setting → ℕ → Moment
moment s zero = beginning s
moment s (suc k) = next s k (moment s k)

abbrev pub Sends : Setting → ℕ → ℕ → ℕ → Type 0
Sends s v k o = (moment s k).sends v ≡ Some o

abbrev pub Hears : Setting → ℕ → ℕ → ℕ → Type 0
Hears s v k o = hears s (moment s k) k v ≡ Some o

-- v is a listener, and k the first step in which it receives o
pub record Accepts (s : Setting) (v o k : ℕ) : Type 0 where
  pub here : has s.everyone v ≡ true
  pub listens : has s.initiators v ≡ false
  pub hears : Hears s v k o
  pub first : (i : ℕ) → i < k → Hears s v i o → ⊥

-- what a listener has accepted at the end: the origin and the step
abbrev pub accepted : Setting → ℕ → Option (ℕ × ℕ)
accepted s v = if has s.initiators v then None else (moment s STEPS).heard v

abbrev pub steps : List ℕ
steps = 0 ∷ 1 ∷ 2 ∷ 3 ∷ 4 ∷ 5 ∷ 6 ∷ 7 ∷ 8 ∷ 9 ∷ 10 ∷ 11 ∷ []

-- the pairs of a node and a step in which it sends
abbrev pub sendings : Setting → ℕ
sendings s = sum_by (λ v. count_by (λ k. is_some ((moment s k).sends v)) steps) s.everyone
