-- What one step makes of the chain of a node's windows, over plain lists.
use Rattle.std.proofs.Common.{◌≡◌, ℕ, suc, ◌<◌, ◌⊎◌, inl, inr, List, ◌∷◌, Bool, true, false, ◌==◌, if◌then◌else◌, Some, None, Option, Contains, refl, sym, ◌∙◌}
use Rattle.std.proofs.Common.{ap, subst}
use Rattle.std.specs.Prelude.{⊤}
use Rattle.bus_rules.specs.declared.tune.Tune.{Tune}
use Rattle.bus_rules.specs.declared.tune.Tune.TheVariants.{Scan, Hold, Host}
use Rattle.node_core.specs.declared.stage.Stage.{Stage}
use Rattle.node_core.specs.declared.stage.Stage.TheVariants.{Idle, Scanning, AwaitFrame, AwaitSlot, InWindow}
use Rattle.node_core.specs.Windows.{Window}
use Rattle.node_core.specs.Nodes.{Node}
use Rattle.node_core.specs.Rows.{stage_for}
use Rattle.air_log.specs.WindowLogs.{WindowLog, Happening, Closing}
use Rattle.air_log.specs.Devices.{Power, PowerOff, PowerOn}
use Rattle.lwb_base.proofs.Elements.{contains_head, contains_tail, contains_cases}
use Rattle.law_trails.specs.Walks.{AwaitsFrame}
use Rattle.law_safety.specs.CountedFrames.{IsResting}
use Rattle.law_windows.specs.WindowChains.{IsNextWindow, HasNext, HasLast, AwaitsAt, AwaitsBy, IsBetweenWindows, AreChained}

-- a place at which no later slot is awaited
abbrev pub IsFree : Stage → Type 0
IsFree Idle = ⊤
IsFree Scanning = ⊤
IsFree AwaitFrame = ⊤
IsFree (AwaitSlot j) = j ≡ 0
IsFree (InWindow j w) = ⊤

free_not : (st : Stage) (k : ℕ) → IsFree st → st ≡ AwaitSlot (suc k) → ⊥
free_not Idle k free is = cc
free_not Scanning k free is = cc
free_not AwaitFrame k free is = cc
free_not (AwaitSlot j) k free is = let same : j ≡ suc k = cc in no_zero k (sym free ∙ same)
  where
    no_zero : (k : ℕ) → ◌≡◌ {A = ℕ} 0 (suc k) → ⊥
    no_zero k is = cc
free_not (InWindow j w) k free is = cc

pub resting_free : (st : Stage) → IsResting st → IsFree st
resting_free Idle rests = tt
resting_free Scanning rests = tt
resting_free AwaitFrame rests = tt
resting_free (AwaitSlot j) rests = rests
resting_free (InWindow j w) rests = tt

pub awaiting_free : (st : Stage) → AwaitsFrame st → IsFree st
awaiting_free Idle awaits = tt
awaiting_free Scanning awaits = tt
awaiting_free AwaitFrame awaits = tt
awaiting_free (AwaitSlot j) awaits = absurd awaits
awaiting_free (InWindow j w) awaits = tt

pub free_awaits : (logs : List WindowLog) (n : Node) (st : Stage) → IsFree st → AwaitsAt logs n st
free_awaits logs n Idle free = tt
free_awaits logs n Scanning free = tt
free_awaits logs n AwaitFrame free = tt
free_awaits logs n (AwaitSlot j) free = inl free
free_awaits logs n (InWindow j w) free = tt

either_free : (b : Bool) → IsFree (if b then AwaitSlot 0 else AwaitFrame)
either_free true = refl
either_free false = tt

pub frame_free : (tune : Tune) (f : ℕ) → IsFree (stage_for tune f)
frame_free (Scan r waited) f = tt
frame_free (Hold r due) f = either_free (due == f)
frame_free (Host r due) f = either_free (due == f)

-- then each window that closed with slots to come has its next
abbrev pub AllFollowed : List WindowLog → Type 0
AllFollowed logs = (u : WindowLog) (c : Closing) → Contains logs u → u.closed ≡ Some c → u.slot < u.last.last → HasNext logs u c

pub followed_on : (logs : List WindowLog) (p : Power) (n : Node) → AreChained logs p → p ≡ PowerOn n → IsFree n.stage → AllFollowed logs
followed_on logs p n has on free u c there closed more = elim (has.ahead u c there closed more) [
  | inl next ↦ next
  | inr waits ↦ absurd (
      let other : p ≡ PowerOn waits.node = waits.on in
      let same : n ≡ waits.node = of_power n waits.node (sym on ∙ other) in
      free_not n.stage u.slot free (ap (λ (m : Node). m.stage) same ∙ waits.between.awaits)
      )
]
  where
    of_power : (n m : Node) → PowerOn n ≡ PowerOn m → n ≡ m
    of_power n m is = cc

pub followed_off : (logs : List WindowLog) (p : Power) (boots : ℕ) → AreChained logs p → p ≡ PowerOff boots → AllFollowed logs
followed_off logs p boots has off u c there closed more = elim (has.ahead u c there closed more) [
  | inl next ↦ next
  | inr waits ↦ absurd (of_power boots waits.node (sym off ∙ waits.on))
]
  where
    of_power : (boots : ℕ) (m : Node) → PowerOff boots ≡ PowerOn m → ⊥
    of_power boots m is = cc

-- the same windows at another node
pub chained_still : (logs : List WindowLog) (p q : Power) → AreChained logs p → AllFollowed logs → AwaitsBy logs q → AreChained logs q
chained_still logs p q has all awaits = record { behind = has.behind; ahead = λ u c there closed more. inl (all u c there closed more); awaits = awaits }

-- a window more
module _ (logs : List WindowLog) (x : WindowLog) where
  next_more : (u : WindowLog) (c : Closing) → HasNext logs u c → HasNext (x ∷ logs) u c
  next_more u c is = record { next = is.next; there = contains_tail x logs is.next is.there; follows = is.follows }

  last_more : (w : WindowLog) → HasLast logs w → HasLast (x ∷ logs) w
  last_more w is = record { last = is.last; there = contains_tail x logs is.last is.there; closing = is.closing; closed = is.closed; follows = is.follows }

  pub chained_more : (p q : Power) → AreChained logs p → x.closed ≡ None → (x.by_alarm ≡ true → (x.slot ≡ 0) ⊎ HasLast (x ∷ logs) x)
      → ((u : WindowLog) (c : Closing) → Contains logs u → u.closed ≡ Some c → u.slot < u.last.last → HasNext (x ∷ logs) u c)
      → AwaitsBy (x ∷ logs) q → AreChained (x ∷ logs) q
  chained_more p q has open_ last next awaits = record {
    behind = λ w there alarm. elim (contains_cases x logs w there) [
      | inl same ↦ subst (λ (y : WindowLog). (y.slot ≡ 0) ⊎ HasLast (x ∷ logs) y) same (last (ap (λ (y : WindowLog). y.by_alarm) same ∙ alarm))
      | inr old ↦ elim (has.behind w old alarm) [ inl first ↦ inl first | inr is ↦ inr (last_more w is) ]
    ];
    ahead = λ u c there closed more. elim (contains_cases x logs u there) [
      | inl same ↦ absurd (none_closed c (sym open_ ∙ ap (λ (y : WindowLog). y.closed) same ∙ closed))
      | inr old ↦ inl (next u c old closed more)
    ];
    awaits = awaits;
  }
    where
      none_closed : (c : Closing) → None ≡ Some c → ⊥
      none_closed c is = cc

  pub next_kept : AllFollowed logs → (u : WindowLog) (c : Closing) → Contains logs u → u.closed ≡ Some c → u.slot < u.last.last → HasNext (x ∷ logs) u c
  next_kept all u c there closed more = next_more u c (all u c there closed more)

-- the open window goes on or closes
module _ (x : WindowLog) (earlier : List WindowLog) (happenings : List Happening) (last : Window) (closed : Option Closing) where
  abbrev later : WindowLog
  later = record x { happenings = happenings; last = last; closed = closed }

  next_there : (u : WindowLog) (c : Closing) → HasNext (x ∷ earlier) u c → HasNext (later ∷ earlier) u c
  next_there u c is = elim (contains_cases x earlier is.next is.there) [
    | inl same ↦ (let f : IsNextWindow u c x = subst (IsNextWindow u c) (sym same) is.follows in
        record {
          next = later;
          there = contains_head later earlier;
          follows = record { by_alarm = f.by_alarm; node = f.node; frame = f.frame; rank = f.rank; slot = f.slot };
        })
    | inr old ↦ record { next = is.next; there = contains_tail later earlier is.next old; follows = is.follows }
  ]

  last_there : x.closed ≡ None → (w : WindowLog) → HasLast (x ∷ earlier) w → HasLast (later ∷ earlier) w
  last_there open_ w is = elim (contains_cases x earlier is.last is.there) [
    | inl same ↦ absurd (none_closed is.closing (sym open_ ∙ ap (λ (y : WindowLog). y.closed) same ∙ is.closed))
    | inr old ↦ record { last = is.last; there = contains_tail later earlier is.last old; closing = is.closing; closed = is.closed; follows = is.follows }
  ]
    where
      none_closed : (c : Closing) → None ≡ Some c → ⊥
      none_closed c is = cc

  pub chained_on : (p q : Power) → AreChained (x ∷ earlier) p → x.closed ≡ None → AllFollowed (x ∷ earlier)
      → ((c : Closing) → closed ≡ Some c → x.slot < last.last → IsBetweenWindows later c q)
      → AwaitsBy (later ∷ earlier) q → AreChained (later ∷ earlier) q
  chained_on p q has open_ all waits awaits = record {
    behind = λ w there alarm. elim (contains_cases later earlier w there) [
      | inl same ↦ subst (λ (y : WindowLog). (y.slot ≡ 0) ⊎ HasLast (later ∷ earlier) y) same
          (elim (has.behind x (contains_head x earlier) (ap (λ (y : WindowLog). y.by_alarm) same ∙ alarm)) [
            | inl first ↦ inl first
            | inr is ↦ inr (of_later (last_there open_ x is))
          ])
      | inr old ↦ elim (has.behind w (contains_tail x earlier w old) alarm) [ inl first ↦ inl first | inr is ↦ inr (last_there open_ w is) ]
    ];
    ahead = λ u c there is more. elim (contains_cases later earlier u there) [
      | inl same ↦ inr (subst (λ (y : WindowLog). IsBetweenWindows y c q) same
          (waits c (ap (λ (y : WindowLog). y.closed) same ∙ is) (subst (λ (y : WindowLog). y.slot < y.last.last) (sym same) more)))
      | inr old ↦ inl (next_there u c (all u c (contains_tail x earlier u old) is more))
    ];
    awaits = awaits;
  }
    where
      of_later : HasLast (later ∷ earlier) x → HasLast (later ∷ earlier) later
      of_later is = record {
        last = is.last;
        there = is.there;
        closing = is.closing;
        closed = is.closed;
        follows = record { by_alarm = is.follows.by_alarm; node = is.follows.node; frame = is.follows.frame; rank = is.follows.rank; slot = is.follows.slot };
      }
