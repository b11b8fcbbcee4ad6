-- Through a tick the requested interval of a stream is what the script lines of the tick make of it.
use Rattle.std.proofs.Common.{◌≡◌, ℕ, zero, suc, ◌<◌, List, [], ◌∷◌, Bool, true, false, ◌==◌, if◌then◌else◌}
use Rattle.std.proofs.Common.{Some, None, Option, fold, length, refl, sym, ◌∙◌, ap, subst, arith, inl, inr, Contains}
use Rattle.std.specs.List.{slice_index_or}
use Rattle.std.specs.Prelude.{slice_set}
use Rattle.std.proofs.lemmas.Bool.{cases_Bool, cond-true, cond-false, eqb-true, eqb-false, cond_both}
use Rattle.std.proofs.lemmas.List.{length-set}
use Rattle.lwb_base.specs.Profile.{Numbers}
use Rattle.lwb_base.specs.declared.event.Event.{Event}
use Rattle.lwb_base.specs.declared.event.Event.TheVariants.{Alarm, Heard, Sent}
use Rattle.bus_rules.specs.Streams.{Stream, no_stream, cleared, stream_at, wishes, emptied, refuses as drops, queued, put_to}
use Rattle.bus_rules.specs.States.{IsAct, core_after_act, wish_after}
use Rattle.bus_rules.specs.Cores.{Setup}
use Rattle.node_core.specs.Nodes.{Node}
use Rattle.node_core.specs.Rows.{Stepped, row, node_after}
use Rattle.radio_model.specs.declared.sending.Sending.{Sending}
use Rattle.radio_model.proofs.Members.{in_head, in_tail}
use Rattle.bus_rules.specs.declared.act.Act.{Act}
use Rattle.bus_rules.specs.declared.act.Act.TheVariants.{On, Off, Declare, Leave, Put}
use Rattle.scenario_text.specs.declared.script.ScriptLine.{ScriptLine}
use Rattle.air_log.specs.Devices.{Device, Power, PowerOff, PowerOn, Listening, OrderedPacket, event, event_by}
use Rattle.air_log.specs.ScriptedDevices.{device_after_act, device_after_line}
use Rattle.air_log.specs.Trails.{Reception, device_after_reception, device_ended_by, alarm_is_due, alarms, one_alarm, begun_by, starts}
use Rattle.law_trails.proofs.RowsOfDevices.{switched_on_is}
use Rattle.air_log.proofs.EventPower.{stepped_power}
use Rattle.host_return.specs.Wishes.{told_by}
use Rattle.host_return.proofs.WishesKept.{SameWishes, KeepsWishes, IsNoBoot, wishes_kept, same, with_same}

-- the requested interval of a stream that is exchanged
set_here : (xs : List Stream) (k : ℕ) (x : Stream) → k < length xs → slice_index_or (slice_set xs k x) k no_stream ≡ x
set_here [] k x below = absurd (omega arith)
set_here (y ∷ ys) zero x below = refl
set_here (y ∷ ys) (suc k) x below = set_here ys k x (omega arith)

set_elsewhere : (xs : List Stream) (k i : ℕ) (x : Stream) → (k ≡ i → ⊥) → slice_index_or (slice_set xs k x) i no_stream ≡ slice_index_or xs i no_stream
set_elsewhere [] k i x other = refl
set_elsewhere (y ∷ ys) zero zero x other = absurd (other refl)
set_elsewhere (y ∷ ys) zero (suc i) x other = refl
set_elsewhere (y ∷ ys) (suc k) zero x other = refl
set_elsewhere (y ∷ ys) (suc k) (suc i) x other = set_elsewhere ys k i x (λ same. other (ap suc same))

set_new : (xs : List Stream) (k i : ℕ) (x : Stream) → k < length xs
    → (slice_index_or (slice_set xs k x) i no_stream).wish ≡ (if k == i then x.wish else (slice_index_or xs i no_stream).wish)
set_new xs k i x below =
    let old : ℕ = (slice_index_or xs i no_stream).wish in
    elim (cases_Bool (k == i)) [
      | inl is ↦
          subst (λ (j : ℕ). (slice_index_or (slice_set xs k x) j no_stream).wish ≡ x.wish) (eqb-true k i is)
          (ap (λ (y : Stream). y.wish) (set_here xs k x below))
          ∙ sym (cond-true (k == i) x.wish old is)
      | inr is ↦ ap (λ (y : Stream). y.wish) (set_elsewhere xs k i x (eqb-false k i is)) ∙ sym (cond-false (k == i) x.wish old is)
    ]

cleared_wish : (i : ℕ) → (stream_at cleared i).wish ≡ 0
cleared_wish zero = refl
cleared_wish (suc zero) = refl
cleared_wish (suc (suc zero)) = refl
cleared_wish (suc (suc (suc zero))) = refl
cleared_wish (suc (suc (suc (suc i)))) = refl

put_wish : (payload : List ℕ) (x : Stream) → (put_to payload x).wish ≡ x.wish
put_wish payload x = cond_both (drops x) x (queued payload x) (λ (y : Stream). y.wish ≡ x.wish) (λ is. refl) (λ is. refl)

abbrev pub HasFour : Power → Type 0
HasFour (PowerOff boots) = Unit {0}
HasFour (PowerOn n) = length n.core.streams.all ≡ 4

-- whether a node is on, and the requested interval of one of its streams
abbrev pub seen_wish : ℕ → Power → (Bool × ℕ)
seen_wish i (PowerOff boots) = (false, 0)
seen_wish i (PowerOn n) = (true, (stream_at n.core.streams i).wish)

module _ (i : ℕ) where
  pub record IsTold (w : Bool × ℕ) (p : Power) : Type 0 where
    pub four : HasFour p
    pub is : seen_wish i p ≡ w

  moved_to : (w : Bool × ℕ) (p q : Power) → p ≡ q → IsTold w q → IsTold w p
  moved_to w p q same is = subst (IsTold w) (sym same) is

  after_same : (w : Bool × ℕ) (n m : Node) → SameWishes n.core.streams m.core.streams → IsTold w (PowerOn n) → IsTold w (PowerOn m)
  after_same w n m kept was = record { four = kept.count ∙ was.four; is = ap (λ (k : ℕ). (true, k)) (kept.wish i) ∙ was.is }

  row_same : (n : Node) (r : Option Stepped) → KeepsWishes n r → SameWishes n.core.streams (node_after n r).core.streams
  row_same n None kept = same n.core.streams
  row_same n (Some r) kept = kept

  module _ (clock : ℕ → ℕ) (s : Setup) (t : ℕ) where
    by_event : (w : Bool × ℕ) (e : Event) (x : Option Sending) (d : Device) (p : Power) → IsNoBoot e → d.power ≡ p → IsTold w p
        → IsTold w (event_by clock s t e x d p).power
    by_event w e x d (PowerOff boots) other at was = moved_to w d.power (PowerOff boots) at was
    by_event w e x d (PowerOn n) other at was =
        let r = row s n (clock t) e in
        moved_to w _ (PowerOn (node_after n r)) (stepped_power clock s t e x d n)
        (after_same w n (node_after n r) (row_same n r (wishes_kept s n (clock t) e other)) was)

    event_told : (w : Bool × ℕ) (e : Event) (x : Option Sending) (d : Device) → IsNoBoot e → IsTold w d.power → IsTold w (event clock s t e x d).power
    event_told w e x d other was = by_event w e x d d.power other refl was

    pub hearings_told : (w : Bool × ℕ) (hs : List Reception) (d : Device) → IsTold w d.power → IsTold w (fold (device_after_reception clock s t) d hs).power
    hearings_told w [] d was = was
    hearings_told w (h ∷ hs) d was = hearings_told w hs (device_after_reception clock s t d h) (event_told w (Heard h.packet) None d tt was)

    pub end_told : (w : Bool × ℕ) (d : Device) (x : Option Sending) → IsTold w d.power → IsTold w (device_ended_by clock s t d x).power
    end_told w d None was = was
    end_told w d (Some x) was =
        cond_both (x.end == t) (event clock s t Sent (Some x) (record d { sending = None })) d (λ (e : Device). IsTold w e.power)
        (λ is. event_told w Sent (Some x) (record d { sending = None }) tt was) (λ is. was)

    pub alarms_told : (w : Bool × ℕ) (b : Bool) (more : ℕ) (d : Device) → IsTold w d.power → IsTold w (alarms clock s t b more d).power
    unfolding alarms
    alarms_told w false more d was = was
    alarms_told w true zero d was = was
    alarms_told w true (suc more) d was =
        let e = one_alarm clock s t d in
        alarms_told w (alarm_is_due t e.alarm) more e (event_told w Alarm None (record d { alarm = None }) tt was)

    start_power : (packet : List ℕ) (d : Device) (l : Option Listening) (x : Option Sending) → (starts s t packet d l x).power ≡ d.power
    start_power packet d None x = refl
    start_power packet d (Some l) (Some x) = refl
    start_power packet d (Some l) None = refl

    pub begun_told : (w : Bool × ℕ) (d : Device) (o : Option OrderedPacket) → IsTold w d.power → IsTold w (begun_by s t d o).power
    begun_told w d None was = was
    begun_told w d (Some o) was =
        cond_both (o.tick == t) (starts s t o.packet d d.listening d.sending) d (λ (e : Device). IsTold w e.power)
        (λ now. moved_to w _ d.power (start_power o.packet d d.listening d.sending) was) (λ other. was)

    -- what an act for a stream leaves
    abbrev after : Act → Bool × ℕ → Bool × ℕ
    after a u = (u.0, if u.0 then wish_after i a u.1 else u.1)

    still_off : (w : Bool × ℕ) (d : Device) (a : Act) (boots : ℕ) → d.power ≡ PowerOff boots → IsTold w (PowerOff boots) → IsTold (after a w) d.power
    still_off w d a boots at was = moved_to _ _ _ at (record { four = tt; is = ap (after a) was.is })

    by_act : (w : Bool × ℕ) (p : Numbers) (d : Device) (a : Act) (q : Power) → IsAct p a → d.power ≡ q → IsTold w q
        → IsTold (told_by i a w) (device_after_act clock s t d a q).power
    by_act w p d On (PowerOff boots) range at was =
        let on = switched_on_is clock s t boots d in
        moved_to _ _ _ on.power (record { four = refl; is = ap (λ (k : ℕ). (true, k)) (cleared_wish i) ∙ ap (λ (u : Bool × ℕ). (true, u.1)) was.is })
    by_act w p d On (PowerOn n) range at was = moved_to _ _ _ at (record { four = was.four; is = ap (λ (u : Bool × ℕ). (true, u.1)) was.is })
    by_act w p d Off (PowerOff boots) range at was = moved_to _ _ _ at (record { four = tt; is = refl })
    by_act w p d Off (PowerOn n) range at was = record { four = tt; is = refl }
    by_act w p d (Declare j interval) (PowerOff boots) range at was = still_off w d (Declare j interval) boots at was
    by_act w p d (Declare j interval) (PowerOn n) range at was =
        let x = wishes interval (stream_at n.core.streams j) in
        record {
          four = length-set n.core.streams.all j x ∙ was.four;
          is = ap (λ (k : ℕ). (true, k)) (set_new n.core.streams.all j i x (omega (arith, range.0, was.four))) ∙ ap (after (Declare j interval)) was.is;
        }
    by_act w p d (Leave j) (PowerOff boots) range at was = still_off w d (Leave j) boots at was
    by_act w p d (Leave j) (PowerOn n) range at was =
        let x = emptied (stream_at n.core.streams j) in
        record {
          four = length-set n.core.streams.all j x ∙ was.four;
          is = ap (λ (k : ℕ). (true, k)) (set_new n.core.streams.all j i x (omega (arith, range, was.four))) ∙ ap (after (Leave j)) was.is;
        }
    by_act w p d (Put j payload) (PowerOff boots) range at was = still_off w d (Put j payload) boots at was
    by_act w p d (Put j payload) (PowerOn n) range at was =
        let x = put_to payload (stream_at n.core.streams j) in
        let is = after_same w n (record n { core = core_after_act (Put j payload) n.core })
        (with_same n.core.streams j x (put_wish payload (stream_at n.core.streams j))) was in
        record { four = is.four; is = ap (after (Put j payload)) is.is }

    pub lines_told : (w : Bool × ℕ) (p : Numbers) (ls : List ScriptLine) (d : Device) → ((l : ScriptLine) → Contains ls l → IsAct p l.act) → IsTold w d.power
        → IsTold (fold (λ (u : Bool × ℕ) (l : ScriptLine). told_by i l.act u) w ls) (fold (device_after_line clock s t) d ls).power
    lines_told w p [] d ranges was = was
    lines_told w p (l ∷ ls) d ranges was =
        lines_told (told_by i l.act w) p ls (device_after_line clock s t d l) (λ m there. ranges m (in_tail ls l m there))
        (by_act w p d l.act d.power (ranges l (in_head ls l)) refl was)
