-- The transmissions of a trail do not overlap: each begins when the one before it has ended.
use Rattle.std.proofs.Common.{◌≡◌, ℕ, zero, suc, ◌≤◌, List, [], ◌∷◌, ◌++◌, ◌==◌, fold, Some, None, Option, All, AllPairs, refl, sym, ◌∙◌, ap, subst, arith}
use Rattle.std.proofs.lemmas.Bool.{cond_both, eqb-true}
use Rattle.std.proofs.lemmas.List.Elements.{All-nil, All-push}
use Rattle.std.proofs.lemmas.List.Quantifiers.{all_pairs_push}
use Rattle.lwb_base.specs.declared.event.Event.TheVariants.{Heard, Sent}
use Rattle.radio_model.specs.declared.sending.Sending.{Sending}
use Rattle.scenario_text.specs.ScenarioParts.{ScenarioParts}
use Rattle.scenario_text.specs.declared.script.ScriptLine.{ScriptLine}
use Rattle.bus_rules.specs.Cores.{Setup}
use Rattle.air_log.specs.Devices.{Device, Listening, OrderedPacket, event}
use Rattle.air_log.specs.ScriptedDevices.{device_after_line}
use Rattle.scenario_text.specs.Setups.{setup_of}
use Rattle.air_log.specs.Trails.{Reception, lines_at, device_after_script, ending_at, device_after_reception, device_after_receptions}
use Rattle.air_log.specs.Trails.{device_ended_by, device_after_end, begun_by, starts, sending_from, before_start, before_tick, run_end, trail}
use Rattle.air_log.proofs.KeptByEvents.{in_tick}
use Rattle.air_log.proofs.SendingsKept.{event_sending, line_sending, alarmed_sending}
use Rattle.air_log.proofs.TrailSendings.{kept_sent}

-- all of these have ended by tick b, each before the next began
abbrev EndsBefore : Sending → Sending → Type 0
EndsBefore x y = x.end ≤ y.start

abbrev EndedBy : ℕ → List Sending → Type 0
EndedBy b xs = AllPairs EndsBefore xs × All (λ x. x.end ≤ b) xs

-- the tick by which the transmission that runs will have ended
abbrev end_of : ℕ → Option Sending → ℕ
end_of t None = t
end_of t (Some x) = x.end

ended_later : (b c : ℕ) (xs : List Sending) → b ≤ c → EndedBy b xs → EndedBy c xs
ended_later b c xs later is = (is.0, λ k x less. let by = is.1 k x less in omega (arith, by, later))

one_more : (b : ℕ) (xs : List Sending) (y : Sending) → EndedBy b xs → b ≤ y.start → y.start ≤ y.end → EndedBy y.end (xs ++ y ∷ [])
one_more b xs y is after long = (
  all_pairs_push EndsBefore xs y is.0 (λ k x less. let by = is.1 k x less in omega (arith, by, after)),
  All-push (λ x. x.end ≤ y.end) xs y (ended_later b y.end xs (omega (arith, after, long)) is).1 (omega arith),
)

-- the transmission that runs, through the phases of a tick
module _ (clock : ℕ → ℕ) (s : Setup) (t : ℕ) where
  lines_sending : (ls : List ScriptLine) (d : Device) → (fold (device_after_line clock s t) d ls).sending ≡ d.sending
  lines_sending [] d = refl
  lines_sending (l ∷ ls) d = lines_sending ls (device_after_line clock s t d l) ∙ line_sending clock s t d l

  hearings_sending : (hs : List Reception) (d : Device) → (fold (device_after_reception clock s t) d hs).sending ≡ d.sending
  hearings_sending [] d = refl
  hearings_sending (h ∷ hs) d = hearings_sending hs (device_after_reception clock s t d h) ∙ event_sending clock s t (Heard h.packet) None d

  -- one that ends now has ended by this tick
  end_by : (d : Device) (x : Option Sending) → d.sending ≡ x → end_of t (device_ended_by clock s t d x).sending ≡ end_of t x
  end_by d None is = ap (end_of t) is
  end_by d (Some x) is =
      cond_both (x.end == t) (event clock s t Sent (Some x) (record d { sending = None })) d (λ (e : Device). end_of t e.sending ≡ x.end)
      (λ same. ap (end_of t) (event_sending clock s t Sent (Some x) (record d { sending = None })) ∙ sym (eqb-true x.end t same))
      (λ other. ap (end_of t) is)

  by_start : (packet : List ℕ) (d : Device) (l : Option Listening) (x : Option Sending) → d.sending ≡ x → EndedBy (end_of t d.sending) d.made.sent
      → EndedBy (end_of t (starts s t packet d l x).sending) (starts s t packet d l x).made.sent
  by_start packet d None x is all = all
  by_start packet d (Some l) (Some x) is all = all
  by_start packet d (Some l) None is all =
      one_more t d.made.sent (sending_from s t packet l) (subst (λ (o : Option Sending). EndedBy (end_of t o) d.made.sent) is all) (omega arith) (omega arith)

  by_begun : (d : Device) (o : Option OrderedPacket) → EndedBy (end_of t d.sending) d.made.sent
      → EndedBy (end_of t (begun_by s t d o).sending) (begun_by s t d o).made.sent
  by_begun d None all = all
  by_begun d (Some o) all =
      cond_both (o.tick == t) (starts s t o.packet d d.listening d.sending) d (λ (e : Device). EndedBy (end_of t e.sending) e.made.sent)
      (λ is. by_start o.packet d d.listening d.sending refl all)
      (λ is. all)

module _ (s : ScenarioParts) (v : ℕ) (clock : ℕ → ℕ) (hs : List Reception) where
  before_starts : (t : ℕ) (d : Device) → EndedBy (end_of t d.sending) d.made.sent
      → (let e = before_start s v clock hs t d in EndedBy (end_of t e.sending) e.made.sent)
  before_starts t d all =
      let x = setup_of s v in
      let lines = device_after_script s v clock t d in
      let after = device_after_receptions clock x t hs lines in
      let e = before_start s v clock hs t d in
      let same : e.made.sent ≡ d.made.sent = in_tick (λ y. y.made.sent ≡ d.made.sent) s v clock hs t d (kept_sent (λ xs. xs ≡ d.made.sent) clock x t) refl in
      let runs : end_of t e.sending ≡ end_of t d.sending =
      ap (end_of t) (alarmed_sending clock x t (device_after_end clock x t after))
      ∙ end_by clock x t after after.sending refl
      ∙ ap (end_of t) (hearings_sending clock x t (ending_at t hs) lines ∙ lines_sending clock x t (lines_at s v t) d) in
      rw (same, runs) all

  next_tick : (t : ℕ) (o : Option Sending) (xs : List Sending) → EndedBy (end_of t o) xs → EndedBy (end_of (suc t) o) xs
  next_tick t None xs all = ended_later t (suc t) xs (omega arith) all
  next_tick t (Some x) xs all = all

  at_tick : (t : ℕ) → (let d = before_tick s v clock hs t in EndedBy (end_of t d.sending) d.made.sent)
  unfolding before_tick
  at_tick zero = ((λ i j d less within. absurd (omega (arith, within))), All-nil (λ (x : Sending). x.end ≤ 0))
  at_tick (suc t) =
      let d = before_tick s v clock hs t in
      let e = before_start s v clock hs t d in
      let next = begun_by (setup_of s v) t e e.ordered in
      next_tick t next.sending next.made.sent (by_begun clock (setup_of s v) t e e.ordered (before_starts t d (at_tick t)))

  pub sendings_apart : AllPairs EndsBefore (trail s v clock hs).made.sent
  sendings_apart = (at_tick (run_end s)).0
