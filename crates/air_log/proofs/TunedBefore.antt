-- What a device was tuned to before a tick, and that what happens to it at the tick does not change it.
use Rattle.std.proofs.Common.{◌≡◌, ℕ, zero, suc, ◌<◌, ◌≤◌, ◌↔◌, ◌⊎◌, inl, inr, List, [], ◌∷◌, ◌==◌, ◌&&◌, nat_lt, fold}
use Rattle.std.proofs.Common.{Some, None, Option, refl, sym, ◌∙◌, ap, subst, arith, Contains, IfSome, ltb-true}
use Rattle.std.proofs.lemmas.Bool.{cond_both, and_parts, eqb-true, ltb-false}
use Rattle.lwb_base.specs.declared.event.Event.{Event}
use Rattle.lwb_base.specs.declared.order.Order.{Order}
use Rattle.lwb_base.specs.declared.order.Order.TheVariants.{Listen, Off, SendAt, Alarm}
use Rattle.radio_model.specs.declared.sending.Sending.{Sending}
use Rattle.radio_model.specs.OnAir.{Tuning}
use Rattle.lwb_base.proofs.Elements.{not_in_none, contains_head, contains_tail, contains_cases}
use Rattle.scenario_text.specs.ScenarioParts.{ScenarioParts}
use Rattle.scenario_text.specs.declared.script.ScriptLine.{ScriptLine}
use Rattle.bus_rules.specs.Cores.{Setup}
use Rattle.air_log.specs.Devices.{Device, Listening, OrderedPacket, obeyed, silenced, tunes, with_tuning, listens_to, event}
use Rattle.air_log.specs.ScriptedDevices.{device_after_line}
use Rattle.scenario_text.specs.Setups.{setup_of}
use Rattle.air_log.specs.Trails.{Reception, device_after_start, begun_by, starts, alarmed, before_tick, before_start}
use Rattle.air_log.proofs.KeptByEvents.{IsKept, by_act, in_event, in_alarms, in_tick}
use Rattle.air_log.specs.TunedTimes.{CoversTick, listened}

-- by these tunings that ended and the present one
abbrev pub TunedAt : List Tuning → Option Listening → ℕ → ℕ → Type 0
TunedAt es l r k = ((e : Tuning) × Contains es e × CoversTick r k e) ⊎ listened r k l

-- none of them goes beyond this tick
pub record AllBy (t : ℕ) (es : List Tuning) (l : Option Listening) : Type 0 where
  pub ended : (e : Tuning) → Contains es e → (e.start ≤ e.end) × (e.end ≤ t)
  pub since : IfSome l (λ l. l.since ≤ t)

-- others of which this is true too, and which are the same before the tick
pub record Stays (t : ℕ) (es : List Tuning) (l : Option Listening) (fs : List Tuning) (m : Option Listening) : Type 0 where
  pub by : AllBy t fs m
  pub same : (r k : ℕ) → k < t → TunedAt fs m r k ↔ TunedAt es l r k

abbrev pub HasTunedBy : ℕ → Device → Type 0
HasTunedBy t d = AllBy t d.made.tuned d.listening

abbrev pub IsTunedAs : ℕ → Device → Device → Type 0
IsTunedAs t d e = Stays t d.made.tuned d.listening e.made.tuned e.listening

pub stays_same : (t : ℕ) (es : List Tuning) (l : Option Listening) → AllBy t es l → Stays t es l es l
stays_same t es l by = record { by = by; same = λ r k early. (λ is. is, λ is. is) }

pub stays_on : (t : ℕ) (es : List Tuning) (l : Option Listening) (fs : List Tuning) (m : Option Listening) (gs : List Tuning) (n : Option Listening)
    → Stays t es l fs m → Stays t fs m gs n → Stays t es l gs n
stays_on t es l fs m gs n a b = record {
  by = b.by;
  same = λ r k early. (λ is. (a.same r k early).0 ((b.same r k early).0 is), λ is. (b.same r k early).1 ((a.same r k early).1 is));
}

pub by_later : (s t : ℕ) (es : List Tuning) (l : Option Listening) → s ≤ t → AllBy s es l → AllBy t es l
by_later s t es l order by = record { ended = λ e there. let all = by.ended e there in (all.0, omega (arith, all.1)); since = later l by.since }
  where
    later : (l : Option Listening) → IfSome l (λ l. l.since ≤ s) → IfSome l (λ l. l.since ≤ t)
    later None is = tt
    later (Some l) is = omega (arith, is)

-- the radio goes off
module _ (v t : ℕ) (es : List Tuning) where
  off_late : (l : Listening) → AllBy t es (Some l) → l.since < t → Stays t es (Some l) (record { rank = l.rank; node = v; start = l.since; end = t } ∷ es) None
  off_late l by early =
      let e : Tuning = record { rank = l.rank; node = v; start = l.since; end = t } in
      record {
        by = record {
          ended = λ d there. elim (contains_cases e es d there) [
            | inl is ↦ subst (λ (d : Tuning). (d.start ≤ d.end) × (d.end ≤ t)) is (omega (arith, early), omega arith)
            | inr later ↦ by.ended d later
          ];
          since = tt;
        };
        same = λ r k before. (
          λ is. elim is [
            | inl d ↦ elim (contains_cases e es d.0 d.1) [
              | inl at ↦ inr (ap (λ (d : Tuning). d.rank) at ∙ d.2.rank, (let since = d.2.since in omega (arith, since, ap (λ (d : Tuning). d.start) at)))
              | inr later ↦ inl (d.0, later, d.2)
            ]
            | inr none ↦ absurd none
          ],
          λ is. elim is [
            | inl d ↦ inl (d.0, contains_tail e es d.0 d.1, d.2)
            | inr goes ↦ inl (e, contains_head e es, record { rank = goes.0; since = goes.1; until = before })
          ],
        );
      }

  off_empty : (l : Listening) → AllBy t es (Some l) → t ≤ l.since → Stays t es (Some l) es None
  off_empty l by late = record {
    by = record { ended = by.ended; since = tt };
    same = λ r k before. (
      λ is. elim is [ inl d ↦ inl d | inr none ↦ absurd none ],
      λ is. elim is [ inl d ↦ inl d | inr goes ↦ absurd (omega (arith, goes.1, before, late)) ],
    );
  }

  off_stays : (l : Option Listening) → AllBy t es l → Stays t es l (with_tuning v t l es) None
  off_stays None by = stays_same t es None by
  off_stays (Some l) by =
      cond_both (nat_lt l.since t) (record { rank = l.rank; node = v; start = l.since; end = t } ∷ es) es (λ (fs : List Tuning). Stays t es (Some l) fs None)
      (λ is. off_late l by (ltb-true l.since t is))
      (λ is. off_empty l by (ltb-false l.since t is))

-- the radio goes on
module _ (t rank : ℕ) where
  fresh : (es : List Tuning) → AllBy t es None → Stays t es None es (Some (record { rank = rank; since = t }))
  fresh es by = record {
    by = record { ended = by.ended; since = omega arith };
    same = λ r k before. (
      λ is. elim is [ inl d ↦ inl d | inr goes ↦ absurd (omega (arith, goes.1, before)) ],
      λ is. elim is [ inl d ↦ inl d | inr none ↦ absurd none ],
    );
  }

  joined : (e : Tuning) (es : List Tuning) → AllBy t (e ∷ es) None → e.rank ≡ rank → e.end ≡ t
      → Stays t (e ∷ es) None es (Some (record { rank = rank; since = e.start }))
  joined e es by of at = record {
    by = record {
      ended = λ d there. by.ended d (contains_tail e es d there);
      since = (let all = by.ended e (contains_head e es) in omega (arith, all.0, all.1));
    };
    same = λ r k before. (
      λ is. elim is [
        | inl d ↦ inl (d.0, contains_tail e es d.0 d.1, d.2)
        | inr goes ↦ inl (e, contains_head e es, record { rank = of ∙ goes.0; since = goes.1; until = omega (arith, at, before) })
      ],
      λ is. elim is [
        | inl d ↦ elim (contains_cases e es d.0 d.1) [
          | inl here ↦
              inr (sym of ∙ ap (λ (d : Tuning). d.rank) here ∙ d.2.rank, (let since = d.2.since in omega (arith, since, ap (λ (d : Tuning). d.start) here)))
          | inr later ↦ inl (d.0, later, d.2)
        ]
        | inr none ↦ absurd none
      ],
    );
  }

  on_stays : (d : Device) (es : List Tuning) → d.made.tuned ≡ es → AllBy t es None
      → Stays t es None (tunes rank t d es).made.tuned (tunes rank t d es).listening
  on_stays d [] at by = subst (λ (fs : List Tuning). Stays t [] None fs (Some (record { rank = rank; since = t }))) (sym at) (fresh [] by)
  on_stays d (e ∷ es) at by =
      cond_both ((e.rank == rank) && (e.end == t)) _ _ (λ (x : Device). Stays t (e ∷ es) None x.made.tuned x.listening)
      (λ is. let both = and_parts _ _ is in joined e es by (eqb-true e.rank rank both.0) (eqb-true e.end t both.1))
      (λ is. subst (λ (fs : List Tuning). Stays t (e ∷ es) None fs (Some (record { rank = rank; since = t }))) (sym at) (fresh (e ∷ es) by))

pub silenced_stays : (v t : ℕ) (d : Device) → HasTunedBy t d → IsTunedAs t d (silenced v t d)
silenced_stays v t d by = off_stays v t d.made.tuned d.listening by

order_stays : (clock : ℕ → ℕ) (v t : ℕ) (d : Device) (o : Order) → HasTunedBy t d → IsTunedAs t d (obeyed clock v t d o)
order_stays clock v t d (Listen rank) by =
    let x = silenced v t d in
    let off = silenced_stays v t d by in
    cond_both (listens_to rank d.listening) d (tunes rank t x x.made.tuned) (IsTunedAs t d)
    (λ is. stays_same t d.made.tuned d.listening by)
    (λ is. stays_on t d.made.tuned d.listening x.made.tuned None _ _ off (on_stays t rank x x.made.tuned refl off.by))
order_stays clock v t d Off by = silenced_stays v t d by
order_stays clock v t d (SendAt local packet) by = stays_same t d.made.tuned d.listening by
order_stays clock v t d (Alarm local) by = stays_same t d.made.tuned d.listening by

-- what is as it was stays so
module _ (clock : ℕ → ℕ) (s : Setup) (t : ℕ) (es : List Tuning) (l : Option Listening) where
  abbrev pub As : Device → Type 0
  As d = Stays t es l d.made.tuned d.listening

  pub kept : IsKept As clock s t
  kept = record {
    obeying = λ d o is. stays_on t es l d.made.tuned d.listening _ _ is (order_stays clock s.id t d o is.by);
    moving = λ e x d n r is. is;
    powered = λ d p is. is;
    without_alarm = λ d is. is;
    off = λ d boots is. stays_on t es l d.made.tuned d.listening _ _ is (silenced_stays s.id t d is.by);
    after_sending = λ d is. is;
  }

  pub event_as : (e : Event) (x : Option Sending) (d : Device) → As d → As (event clock s t e x d)
  event_as e x d is = in_event As clock s t e x d kept is

  pub line_as : (d : Device) (line : ScriptLine) → As d → As (device_after_line clock s t d line)
  line_as d line is = by_act As clock s t kept line.act d is

  pub lines_as : (d : Device) (lines : List ScriptLine) → As d → As (fold (device_after_line clock s t) d lines)
  lines_as d [] is = is
  lines_as d (line ∷ lines) is = lines_as (device_after_line clock s t d line) lines (line_as d line is)

  pub alarmed_as : (d : Device) → As d → As (alarmed clock s t d)
  alarmed_as d is = in_alarms As clock s t d kept is

-- what is done at a device
module _ (clock : ℕ → ℕ) (s : Setup) (t : ℕ) (d : Device) (by : HasTunedBy t d) where
  itself : IsTunedAs t d d
  itself = stays_same t d.made.tuned d.listening by

  pub obeyed_stays : (o : Order) → IsTunedAs t d (obeyed clock s.id t d o)
  obeyed_stays o = order_stays clock s.id t d o by

  pub event_stays : (e : Event) (x : Option Sending) → IsTunedAs t d (event clock s t e x d)
  event_stays e x = event_as clock s t d.made.tuned d.listening e x d itself

  pub line_stays : (line : ScriptLine) → IsTunedAs t d (device_after_line clock s t d line)
  line_stays line = line_as clock s t d.made.tuned d.listening d line itself

  pub alarmed_stays : IsTunedAs t d (alarmed clock s t d)
  alarmed_stays = alarmed_as clock s t d.made.tuned d.listening d itself

-- the start of a transmission leaves the radio as it is
started_as : (s : Setup) (t : ℕ) (packet : List ℕ) (P : List Tuning → Option Listening → Type 0) (d : Device) (l : Option Listening) (x : Option Sending)
    → P d.made.tuned d.listening → P (starts s t packet d l x).made.tuned (starts s t packet d l x).listening
started_as s t packet P d None x is = is
started_as s t packet P d (Some l) None is = is
started_as s t packet P d (Some l) (Some x) is = is

begun_as : (s : Setup) (t : ℕ) (P : List Tuning → Option Listening → Type 0) (d : Device) (o : Option OrderedPacket) → P d.made.tuned d.listening
    → P (begun_by s t d o).made.tuned (begun_by s t d o).listening
begun_as s t P d None is = is
begun_as s t P d (Some o) is =
    cond_both (o.tick == t) (starts s t o.packet d d.listening d.sending) d (λ (x : Device). P x.made.tuned x.listening)
    (λ at. started_as s t o.packet P d d.listening d.sending is) (λ at. is)

pub begun_stays : (s : Setup) (t : ℕ) (d : Device) → HasTunedBy t d → IsTunedAs t d (device_after_start s t d)
begun_stays s t d by = begun_as s t (Stays t d.made.tuned d.listening) d d.ordered (stays_same t d.made.tuned d.listening by)

-- along a trail
module _ (s : ScenarioParts) (v : ℕ) (clock : ℕ → ℕ) (hs : List Reception) where
  step_by : (t : ℕ) → HasTunedBy t (before_tick s v clock hs t) → HasTunedBy (suc t) (before_tick s v clock hs (suc t))
  unfolding before_tick
  step_by t by =
      let d = before_tick s v clock hs t in
      let x = before_start s v clock hs t d in
      let within : Stays t d.made.tuned d.listening x.made.tuned x.listening =
      in_tick (As clock (setup_of s v) t d.made.tuned d.listening) s v clock hs t d (kept clock (setup_of s v) t d.made.tuned d.listening)
      (stays_same t d.made.tuned d.listening by) in
      by_later t (suc t) _ _ (omega arith) (begun_stays (setup_of s v) t x within.by).by

  pub tick_by : (t : ℕ) → HasTunedBy t (before_tick s v clock hs t)
  unfolding before_tick
  tick_by zero = record { ended = λ e there. absurd (not_in_none e there); since = tt }
  tick_by (suc t) = step_by t (tick_by t)
