-- What happened in a window is on the air.
use Rattle.std.specs.Prelude.{◌≡◌, ℕ, ◌<◌, ◌≤◌, List, Contains, AllPairs}
use Rattle.std.specs.Option.{IfSome}
use Rattle.scenario_text.specs.ScenarioParts.{ScenarioParts}
use Rattle.radio_model.specs.declared.sending.Sending.{Sending}
use Rattle.radio_model.specs.Hearing.{frame_of_sending}
use Rattle.air_log.specs.declared.entry.Entry.{Entry}
use Rattle.air_log.specs.Entries.{sendings_of, HasHeardEntry}
use Rattle.air_log.specs.WindowLogs.{WindowLog, Happening, HeardAt, SentAt}
use Rattle.law_windows.specs.WindowTimes.{IsOfSlot}

abbrev pub tick_of_happening : Happening → ℕ
tick_of_happening (HeardAt t p) = t
tick_of_happening (SentAt t p) = t

module _ (s : ScenarioParts) (air : List Entry) (v : ℕ) (w : WindowLog) where
  -- v received this packet until then, in the frame and on the channel of the window
  pub record HeardThen (tick : ℕ) (packet : List ℕ) : Type 0 where
    pub heard : Sending
    pub there : HasHeardEntry air v heard
    pub channel : heard.rank ≡ w.rank
    pub frame : frame_of_sending s.profile heard ≡ w.frame
    pub end : heard.end ≡ tick
    pub packet_is : heard.packet ≡ packet

  -- or sent it, in its slot
  pub record SentThen (tick : ℕ) (packet : List ℕ) : Type 0 where
    pub sent : Sending
    pub there : Contains (sendings_of air) sent
    pub node : sent.node ≡ v
    pub of_slot : IsOfSlot s w sent
    pub end : sent.end ≡ tick
    pub packet_is : sent.packet ≡ packet

  abbrev pub WasThen : Happening → Type 0
  WasThen (HeardAt t p) = HeardThen t p
  WasThen (SentAt t p) = SentThen t p

  -- from its opening to its closing, one after another
  pub record HasHappened : Type 0 where
    pub then_ : (e : Happening) → Contains w.happenings e → WasThen e
    pub since : (e : Happening) → Contains w.happenings e → w.opened ≤ tick_of_happening e
    pub until : IfSome w.closed (λ c. (e : Happening) → Contains w.happenings e → tick_of_happening e ≤ c.tick)
    pub in_turn : AllPairs (λ d e. tick_of_happening d ≤ tick_of_happening e) w.happenings

-- whatever v receives while the window is open, up to a tick, has happened in it
abbrev pub HearsAll : List Entry → ℕ → ℕ → WindowLog → Type 0
HearsAll air v until w = (x : Sending) → HasHeardEntry air v x → w.opened < x.end → x.end < until → IfSome w.closed (λ c. x.end < c.tick)
    → Contains w.happenings (HeardAt x.end x.packet)
