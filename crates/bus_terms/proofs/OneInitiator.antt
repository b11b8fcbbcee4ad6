-- A flood with one initiator: each origin is that one, and who receives is reached by a path. Such is the flood of each data slot
-- and each schedule, whose owner or host alone says something; of contention slots it is where one node contends.
use Rattle.std.proofs.Common.{◌≡◌, ℕ, zero, suc, ◌+◌, ◌<◌, List, [], ◌∷◌, Bool, true, false, not, ◌&&◌, ◌||◌, if◌then◌else◌, inl, inr, ⊎_elim}
use Rattle.std.proofs.Common.{eq-eqb, Option, Some, None, is_some, refl, sym, ◌∙◌, ap, subst, filter_map, ◌==◌, nat_lt}
use Rattle.std.proofs.lemmas.Bool.{cases_eq, or_right, or_left, or_from, not_from_false, ne_eqb, cond_both, or_cases, eqb-true, and_parts, and_from}
use Rattle.std.proofs.lemmas.Bool.{false≢true, ltb-true, lt-ltb}
use Rattle.std.specs.List.{list_any, list_all, cons_option}
use Rattle.std.specs.Option.{option_and_then}
use Rattle.lwb_base.proofs.Options.{none_is}
use Rattle.bus_terms.specs.Flooding.{Setting, Moment, STEPS, has, only_one, named, pick, agrees, may_hear, hears, first_heard, moment, Hears}

-- whether some node sends to v
abbrev pub reaches : Setting → Moment → ℕ → ℕ → Bool
reaches s m k v = list_any (λ u. s.passes k u v && is_some (m.sends u)) s.everyone

-- v is reached over a link that passes from a node at which a path of k links ends, which sends in step k
abbrev pub Reached : Setting → ℕ → ℕ → ℕ → Type 0
Reached s start zero v = v ≡ start
Reached s start (suc k) v =
    (u : ℕ) × Reached s start k u × ((moment s k).sends u ≡ Some start) × (s.passes k u v ≡ true)
    × ((moment s k).sends v ≡ None) × ((moment s k).times v < s.limit)

abbrev pub IsOrigin : ℕ → Option ℕ → Type 0
IsOrigin start None = Unit {0}
IsOrigin start (Some o) = o ≡ start

abbrev pub IsFirst : ℕ → Option (ℕ × ℕ) → Type 0
IsFirst start None = Unit {0}
IsFirst start (Some h) = h.0 ≡ start

pub record HasOne (start : ℕ) (m : Moment) : Type 0 where
  pub sends : (v : ℕ) → IsOrigin start (m.sends v)
  pub heard : (v : ℕ) → IsFirst start (m.heard v)

-- what reaches a node, from these senders
abbrev from_all : (ℕ → Option ℕ) → (ℕ → Bool) → List ℕ → List ℕ
from_all sends passes us = filter_map (λ u. if passes u then sends u else None) us

abbrev pub some_of : ℕ → Bool → Option ℕ
some_of start b = if b then Some start else None

abbrev one_more : ℕ → Option ℕ → Bool → Option ℕ → List ℕ → Bool → Type 0
one_more start other p w os b =
    (list_all (λ x. x == start) (cons_option (if p then w else None) os) ≡ true)
    × (only_one (cons_option (if p then w else None) os) other ≡ some_of start (p && is_some w || b))

at_start : (start : ℕ) (other : Option ℕ) (os : List ℕ) (b : Bool) → list_all (λ x. x == start) os ≡ true → one_more start other true (Some start) os b
at_start start other os b all = (rw (eq-eqb start start refl) all, rw all refl)

adds_one : (start : ℕ) (other : Option ℕ) (p : Bool) (w : Option ℕ) (os : List ℕ) (b : Bool) → IsOrigin start w → list_all (λ x. x == start) os ≡ true
    → only_one os other ≡ some_of start b
    → one_more start other p w os b
adds_one start other false w os b is all only = (all, only)
adds_one start other true None os b is all only = (all, only)
adds_one start other true (Some o) os b is all only = subst (λ (x : ℕ). one_more start other true (Some x) os b) (sym is) (at_start start other os b all)

pub picked : (start : ℕ) (sends : ℕ → Option ℕ) → ((v : ℕ) → IsOrigin start (sends v)) → (passes : ℕ → Bool) (other : Option ℕ) (us : List ℕ)
    → (list_all (λ x. x == start) (from_all sends passes us) ≡ true)
    × (only_one (from_all sends passes us) other ≡ some_of start (list_any (λ u. passes u && is_some (sends u)) us))
picked start sends one passes other [] = (refl, refl)
picked start sends one passes other (u ∷ us) =
    let rest = picked start sends one passes other us in
    adds_one start other (passes u) (sends u) (from_all sends passes us) _ (one u) rest.0 rest.1

-- the origin is the node itself or another
own : (start v : ℕ) → ((not ((start == v) || false)) || (v == start)) ≡ true
own start v =
    elim (cases_eq v start) [
      | inl is ↦ or_right _ _ (eq-eqb v start is)
      | inr other ↦ or_left _ _ (not_from_false _ (or_from _ _ (ne_eqb start v (λ e. other (sym e))) refl))
    ]

agreed : (start : ℕ) (h : Option (ℕ × ℕ)) → IsFirst start h → agrees h start ≡ true
agreed start None is = refl
agreed start (Some h) is = eq-eqb h.0 start is

heard_by : (start : ℕ) (may : Bool) (f g : ℕ → Bool) (got : Option ℕ) (b : Bool) → got ≡ some_of start b → f start ≡ true → g start ≡ true
    → (if may then option_and_then (λ o. if f o && g o then Some o else None) got else None) ≡ some_of start (may && b)
heard_by start false f g got b is p q = refl
heard_by start true f g got false is p q = rw is refl
heard_by start true f g got true is p q = rw (is, p, q) refl

-- with one initiator v receives if and only if it may and something reaches it
pub hears-one : (s : Setting) (start : ℕ) (m : Moment) (k v : ℕ) → s.initiators ≡ start ∷ [] → HasOne start m
    → hears s m k v ≡ some_of start (may_hear s m v && reaches s m k v)
hears-one s start m k v is one =
    heard_by start (may_hear s m v) (λ o. not (has s.initiators v) || (v == o)) (λ o. agrees (m.heard v) o) (pick s m k v) (reaches s m k v)
    (picked start m.sends one.sends (λ u. s.passes k u v) (named s m k v) s.everyone).1
    (rw is (own start v))
    (agreed start (m.heard v) (one.heard v))

origin_of : (start : ℕ) (o : Option ℕ) (b : Bool) → o ≡ some_of start b → IsOrigin start o
origin_of start o false is = rw is tt
origin_of start o true is = rw is refl

first_of_one : (start k : ℕ) (h : Option (ℕ × ℕ)) (o : Option ℕ) → IsFirst start h → IsOrigin start o → IsFirst start (first_heard h k o)
first_of_one start k (Some h) o is one = is
first_of_one start k None None is one = tt
first_of_one start k None (Some o) is one = one

began : (start v : ℕ) → IsOrigin start (if (start == v) || false then Some v else None)
began start v =
    cond_both ((start == v) || false) (Some v) None (IsOrigin start)
    (λ is. ⊎_elim (λ same. sym (eqb-true start v same)) (λ no. absurd (false≢true no)) (or_cases _ _ is)) (λ not. tt)

-- at each moment
pub has_one : (s : Setting) (start k : ℕ) → s.initiators ≡ start ∷ [] → HasOne start (moment s k)
unfolding moment
has_one s start zero is = record { sends = λ v. rw is (began start v); heard = λ v. tt }
has_one s start (suc k) is =
    let one = has_one s start k is in
    let here : (v : ℕ) → IsOrigin start (hears s (moment s k) k v) = λ v. origin_of start _ _ (hears-one s start (moment s k) k v is one) in
    record {
      sends = λ v. cond_both (nat_lt (k + 1) STEPS) _ _ (IsOrigin start) (λ is. here v) (λ not. tt);
      heard = λ v. first_of_one start k _ _ (one.heard v) (here v);
    }

pub witness : (p : ℕ → Bool) (us : List ℕ) → list_any p us ≡ true → (u : ℕ) × (has us u ≡ true) × (p u ≡ true)
witness p [] is = absurd (false≢true is)
witness p (u ∷ us) is =
    ⊎_elim
    (λ here. (u, or_left _ _ (eq-eqb u u refl), here))
    (λ there. let w = witness p us there in (w.0, or_right _ _ w.1, w.2))
    (or_cases _ _ is)

pub any_of : (p : ℕ → Bool) (us : List ℕ) (u : ℕ) → has us u ≡ true → p u ≡ true → list_any p us ≡ true
any_of p [] u none is = absurd (false≢true none)
any_of p (x ∷ us) u here is =
    ⊎_elim
    (λ same. or_left _ _ (subst (λ (y : ℕ). p y ≡ true) (sym (eqb-true x u same)) is))
    (λ there. or_right _ _ (any_of p us u there is))
    (or_cases _ _ here)

some_of_one : (start : ℕ) (o : Option ℕ) → IsOrigin start o → is_some o ≡ true → o ≡ Some start
some_of_one start None one is = absurd (false≢true is)
some_of_one start (Some x) one is = ap (λ (y : ℕ). Some y) one

true_of : (start : ℕ) (b : Bool) → some_of start b ≡ Some start → b ≡ true
true_of start false is = cc
true_of start true is = refl

before_end : (b : Bool) (o : Option ℕ) (start : ℕ) → (if b then o else None) ≡ Some start → o ≡ Some start
before_end false o start is = cc
before_end true o start is = is

if_some : (b : Bool) (v start : ℕ) → (if b then Some v else None) ≡ Some start → v ≡ start
if_some false v start is = cc
if_some true v start is = cc

module _ (s : Setting) (start : ℕ) (alone : s.initiators ≡ start ∷ []) where
  -- where v receives, another node sends over a link that passes
  pub last : (k v : ℕ) → Hears s v k start → (u : ℕ) × ((moment s k).sends u ≡ Some start) × (s.passes k u v ≡ true) × ((moment s k).sends v ≡ None)
      × ((moment s k).times v < s.limit) × (has s.everyone v ≡ true)
  last k v hears =
      let m = moment s k in
      let one = has_one s start k alone in
      let both = and_parts (may_hear s m v) (reaches s m k v) (true_of start _ (sym (hears-one s start m k v alone one) ∙ hears)) in
      let may = and_parts _ _ both.0 in
      let free = and_parts _ _ may.0 in
      let u = witness _ s.everyone both.1 in
      let sends = and_parts _ _ u.2 in
      (u.0, some_of_one start (m.sends u.0) (one.sends u.0) sends.1, sends.0, none_is _ free.1, ltb-true _ _ may.1, free.0)

  pub sender : (k v : ℕ) → (moment s k).sends v ≡ Some start → Reached s start k v
  unfolding moment
  sender zero v sends = if_some (has s.initiators v) v start sends
  sender (suc k) v sends = let l = last k v (before_end (nat_lt (k + 1) STEPS) _ start sends) in (l.0, sender k l.0 l.1, l.1, l.2, l.3, l.4)

  pub takes_part : has s.everyone start ≡ true → (k v : ℕ) → (moment s k).sends v ≡ Some start → has s.everyone v ≡ true
  unfolding moment
  takes_part here zero v sends = subst (λ (y : ℕ). has s.everyone y ≡ true) (sym (if_some (has s.initiators v) v start sends)) here
  takes_part here (suc k) v sends = (last k v (before_end (nat_lt (k + 1) STEPS) _ start sends)).5

  pub hears_reached : has s.everyone start ≡ true → (k v : ℕ) → has s.everyone v ≡ true → Reached s start (suc k) v → Hears s v k start
  hears_reached here k v there (u, path, sends, passes, quiet, few) =
      let m = moment s k in
      let may : may_hear s m v ≡ true = and_from _ _ (and_from _ _ there (rw quiet refl)) (lt-ltb _ _ few) in
      let some : is_some (m.sends u) ≡ true = rw sends refl in
      let reached : reaches s m k v ≡ true =
      any_of (λ x. s.passes k x v && is_some (m.sends x)) s.everyone u (takes_part here k u sends) (and_from _ _ passes some) in
      hears-one s start m k v alone (has_one s start k alone) ∙ rw (may, reached) refl
