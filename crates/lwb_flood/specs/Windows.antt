-- When a node that listens in a window is tuned, and floods whose nodes listen in windows.
use Rattle.std.specs.Prelude.{◌≡◌, ℕ, ◌+◌, ◌-◌, ◌*◌, ◌^◌, ◌≤◌, Contains, get_or}
use Rattle.lwb_base.specs.Profile.{Numbers, airtime, step}
use Rattle.lwb_base.specs.declared.limits.TheConstants.{FLOOD_STEPS}
use Rattle.tick_clock.specs.Clocks.{IsClock, due}
use Rattle.time_reference.specs.Budgets.{Budget}
use Rattle.radio_model.specs.declared.sending.Sending.{Sending}
use Rattle.air_log.specs.NodeEvents.{own_ends}
use Rattle.lwb_flood.specs.FloodRun.{Run, InTime, initiates, IsParticipant, HasInitiators, HasSendings, HasEvents, HearsByRule}

-- when v goes off: at the end of its last transmission, the N-th of at most N, or else at the closing
abbrev pub off_at : Run → ℕ → ℕ → ℕ
off_at r v closing = get_or (own_ends (r.events v)) (r.setting.limit - 1) closing

-- v is tuned from its window's opening until it goes off
pub record IsListeningWindow (r : Run) (Tuned : ℕ → Sending → Type 0) (v opening closing : ℕ) : Type 0 where
  pub some : 1 ≤ r.setting.limit
  pub since : (x : Sending) → InTime r x → opening ≤ x.start
  pub until : (x : Sending) → InTime r x → x.end ≤ closing
  pub tuned : (x : Sending) → Contains r.sendings x → opening ≤ x.start → x.end ≤ off_at r v closing → Tuned v x
  pub only : (x : Sending) → Contains r.sendings x → InTime r x → Tuned v x → x.end ≤ off_at r v closing

pub record ListensInWindow (r : Run) (Tuned : ℕ → Sending → Type 0) (v : ℕ) : Type 0 where
  pub opening : ℕ
  pub closing : ℕ
  pub window : IsListeningWindow r Tuned v opening closing

-- a flood of a slot, with packets of n bytes: its times are those of a profile, its nodes turn around by their clocks
-- and listen in windows
pub record IsSlotFlood (p : Numbers) (b : Budget) (n : ℕ) (clocks : ℕ → ℕ → ℕ) (r : Run) (Tuned : ℕ → Sending → Type 0) : Type 0 where
  pub size : 7 ≤ n
  pub air : r.air ≡ airtime p n
  pub turn : r.turn ≡ p.turn
  pub delta : r.delta ≡ p.delta
  pub spread : r.spread ≤ b.contenders
  pub in_range : (o : ℕ) → initiates r o → r.starts o + FLOOD_STEPS * step p n ≤ 2 ^ 45
  pub clocks_drift : (v : ℕ) → IsParticipant r v → IsClock (clocks v)
  pub relay_start : (v e : ℕ) → IsParticipant r v → r.relay_start v e ≡ due (clocks v) (clocks v e + p.turn)
  pub initiators : HasInitiators r
  pub sent : HasSendings r
  pub happened : HasEvents r
  pub hears : HearsByRule r Tuned
  pub windows : (v : ℕ) → IsParticipant r v → ListensInWindow r Tuned v
