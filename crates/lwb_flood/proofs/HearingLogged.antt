-- What a reception adds to the log of a flood, and which nodes it moves.
use Rattle.std.proofs.Common.{◌≡◌, ℕ, ◌+◌, ◌*◌, ◌<◌, ◌≤◌, ◌⊎◌, List, [], ◌∷◌, ◌++◌, true, false, not, inl, inr, refl, sym, ◌∙◌, ap, subst, arith}
use Rattle.std.proofs.Common.{length, get_or, ◌-◌}
use Rattle.std.specs.Prelude.{Contains}
use Rattle.std.proofs.lemmas.Bool.{cases_eq, true≢false, false_from_ne_true}
use Rattle.std.proofs.lemmas.List.{append-nil}
use Rattle.std.proofs.lemmas.List.Elements.{filter_map-append, Contains-push, Contains-push_cases, Contains-append_left}
use Rattle.glossy_relay.specs.FloodState.{FloodState}
use Rattle.glossy_relay.specs.Relaying.{fits, reply_to}
use Rattle.glossy_relay.specs.declared.flood.Reply.{Reply}
use Rattle.scenario_text.specs.FloodParts.{FloodParts, knows}
use Rattle.radio_model.specs.declared.sending.Sending.{Sending}
use Rattle.radio_model.specs.OnAir.{Hearing, Tuning}
use Rattle.radio_model.specs.Hearing.{HearsInScene}
use Rattle.air_log.specs.Entries.{sendings_of, hearings_of, tunings_of, HasHeardEntry}
use Rattle.air_log.specs.NodeEvents.{Event, Heard, EventOccasion, event_occasions, own_end, own_ends}
use Rattle.air_log.specs.FloodLaw.{OPENING, CLOSING, tuning_by}
use Rattle.lwb_base.proofs.Elements.{contains_head}
use Rattle.lwb_flood.specs.declared.member.Act.{Act}
use Rattle.lwb_flood.specs.declared.member.Act.TheVariants.{Listens, Waits, Sends, Off}
use Rattle.lwb_flood.specs.declared.member.Member.{Member}
use Rattle.lwb_flood.specs.FloodLog.{HasClocks}
use Rattle.lwb_flood.specs.FloodWorlds.{World, act_by, hearing_by, world_after_reception}
use Rattle.lwb_flood.proofs.FloodSoFar.{scene, standing, events_in, running, IsSending, Stands, Runs, IsSettled, IsDue}
use Rattle.lwb_flood.proofs.FloodSoFar.{IsFloodSoFar}
use Rattle.lwb_flood.proofs.WorldLists.{changed_there, same_there, events_heard_own, events_heard_other, occasion_kept}
use Rattle.air_log.proofs.LoggedEntries.{sendings_heard, hearings_heard, tunings_heard}
use Rattle.lwb_flood.proofs.FloodReplies.{fitting, ignored, left_as}

-- node v receives x, which has just ended, before those that are yet to receive
pub record Receives (f : FloodParts) (clocks : ℕ → ℕ → ℕ) (v : ℕ) (x : Sending) (todo : List Hearing) (leaving : List ℕ) (w : World) : Type 0 where
  pub has : HasClocks f clocks
  pub so : IsFloodSoFar f clocks (record { node = v; sending = x } ∷ todo) leaving w
  pub early : w.medium.now < CLOSING
  pub over : Runs w x → ⊥

module _ {f : FloodParts} {clocks : ℕ → ℕ → ℕ} {v : ℕ} {x : Sending} {todo : List Hearing} {leaving : List ℕ} {w : World}
    (g : Receives f clocks v x todo leaving w) where
  abbrev hearing : Hearing
  hearing = record { node = v; sending = x }

  abbrev next : World
  next = world_after_reception (clocks v) x v w

  pub just : IsDue w hearing
  just = g.so.due_now hearing (contains_head hearing todo)

  settled : IsSettled f (hearing ∷ todo) w x
  settled = elim (g.so.sent x just.sent).fate [ inl runs ↦ absurd (g.over runs) | inr done ↦ done ]

  pub by_rule : (knows f.nodes v ≡ true) × HearsInScene (standing f w) v x
  by_rule = (settled.heard v).0 (inr (contains_head hearing todo))

  -- the log with the entry
  same_sendings : sendings_of next.air ≡ sendings_of w.air
  same_sendings = sendings_heard w.air v x

  pub same_tunings : tunings_of next.air ≡ tunings_of w.air
  same_tunings = tunings_heard w.air v x

  pub same_scene : scene f next ≡ scene f w
  same_scene =
      ap (λ (l : List Sending). record (scene f next) { sendings = l }) same_sendings
      ∙ ap (λ (l : List Tuning). record (scene f w) { tunings = l }) same_tunings

  pub sent_on : (y : Sending) → Contains (sendings_of w.air) y → Contains (sendings_of next.air) y
  sent_on y there = subst (λ (l : List Sending). Contains l y) (sym same_sendings) there

  pub sent_back : (y : Sending) → Contains (sendings_of next.air) y → Contains (sendings_of w.air) y
  sent_back y there = subst (λ (l : List Sending). Contains l y) same_sendings there

  pub heard_on : (u : ℕ) (y : Sending) → HasHeardEntry w.air u y → HasHeardEntry next.air u y
  heard_on u y there = subst (λ (l : List Hearing). Contains l (record { node = u; sending = y })) (sym (hearings_heard w.air v x))
      (Contains-append_left (hearings_of w.air) (hearing ∷ []) (record { node = u; sending = y }) there)

  pub heard_new : HasHeardEntry next.air v x
  heard_new = subst (λ (l : List Hearing). Contains l hearing) (sym (hearings_heard w.air v x)) (Contains-push (hearings_of w.air) hearing)

  pub heard_cases : (u : ℕ) (y : Sending) → HasHeardEntry next.air u y → HasHeardEntry w.air u y ⊎ (hearing ≡ record { node = u; sending = y })
  heard_cases u y there = Contains-push_cases (hearings_of w.air) hearing (record { node = u; sending = y })
      (subst (λ (l : List Hearing). Contains l (record { node = u; sending = y })) (hearings_heard w.air v x) there)

  pub occasions_on : (u : ℕ) (s : FloodState) (o : EventOccasion) → Contains (event_occasions s (events_in w.air u)) o
      → Contains (event_occasions s (events_in next.air u)) o
  occasions_on u s o there =
      elim (cases_eq v u) [
        | inl at ↦ subst (λ (l : List Event). Contains (event_occasions s l) o) (sym (events_heard_own w.air v x u at))
            (occasion_kept s (events_in w.air u) (Heard x ∷ []) o there)
        | inr not ↦ subst (λ (l : List Event). Contains (event_occasions s l) o) (sym (events_heard_other w.air v x u not)) there
      ]

  pub ends_more : (es : List Event) → own_ends (es ++ Heard x ∷ []) ≡ own_ends es
  ends_more es = filter_map-append own_end es (Heard x ∷ []) ∙ append-nil (own_ends es)

  pub ends_same : (u : ℕ) → own_ends (events_in next.air u) ≡ own_ends (events_in w.air u)
  ends_same u =
      elim (cases_eq v u) [
        | inl at ↦ ap own_ends (events_heard_own w.air v x u at) ∙ ends_more (events_in w.air u)
        | inr not ↦ ap own_ends (events_heard_other w.air v x u not)
      ]

  pub tuning_same : (u : ℕ) (es fs : List Event) → own_ends fs ≡ own_ends es → tuning_by f.sends u es ≡ tuning_by f.sends u fs
  tuning_same u es fs same = ap (tuning_with u) (sym same)
    where
      tuning_with : ℕ → List ℕ → Tuning
      tuning_with u ends = record { rank = 0; node = u; start = OPENING; end = get_or ends (f.sends - 1) CLOSING }

  -- who is about what
  not_sending : (m : Member) → Contains w.members m → m.node ≡ v → (y : Sending) → m.act ≡ Sends y → ⊥
  not_sending m there at y act =
      let s : IsSending w m y = subst (λ (a : Act). Stands f clocks w leaving (g.so.each m there).past m a) act (g.so.each m there).stands in
      let node : y.node ≡ v = ap (λ (z : Sending). z.node) s.own ∙ at in
      let last : x.end ≡ x.start + (length x.packet + 8) * 2048 = ap (λ (z : Sending). z.end) (g.so.sent x just.sent).lasts in
      let now : x.end ≡ w.medium.now = just.now in
      let later : w.medium.now ≤ y.end = s.later in
      by_rule.1.silent y s.sent node (record { before = omega arith; after = just.begun y s.sent })

  pub idle : (m : Member) → Contains w.members m → m.node ≡ v → running m.act ≡ []
  idle m there at = by_act m.act refl
    where
      by_act : (a : Act) → m.act ≡ a → running a ≡ []
      by_act Listens act = refl
      by_act (Waits t p) act = refl
      by_act (Sends y) act = absurd (not_sending m there at y act)
      by_act Off act = refl

  -- what fits comes to a node that listens
  pub listens : (m : Member) → Contains w.members m → fits m.flood x.packet ≡ true → m.act ≡ Listens
  listens m there fit = by_act m.act refl (g.so.each m there).stands
    where
      ready : (m.flood.sent < m.flood.limit) × (m.flood.waiting ≡ false)
      ready = fitting m.flood x.packet fit

      by_act : (a : Act) → m.act ≡ a → Stands f clocks w leaving (g.so.each m there).past m a → m.act ≡ Listens
      by_act Listens act stands = act
      by_act (Waits t p) act stands = absurd (true≢false (sym stands.waits ∙ ready.1))
      by_act (Sends y) act stands = absurd (true≢false (sym stands.waits ∙ ready.1))
      by_act Off act stands = let less = ready.0 in elim stands.over [ inl all ↦ absurd (omega arith) | inr late ↦ absurd (omega arith) ]

  pub unmoved : (m : Member) → fits m.flood x.packet ≡ false → hearing_by (clocks v) x m ≡ m
  unmoved m not =
      ap (λ (s : FloodState). record m { flood = s; act = act_by (clocks v) x.end (reply_to m.flood x.packet) m.act }) (left_as m.flood x.packet not)
      ∙ ap (λ (r : Reply). record m { act = act_by (clocks v) x.end r m.act }) (ignored m.flood x.packet not)

  pub kept_there : (m : Member) → Contains w.members m → fits m.flood x.packet ≡ false → Contains next.members m
  kept_there m there not =
      elim (cases_eq m.node v) [
        | inl at ↦ subst (λ (n : Member). Contains next.members n) (unmoved m not) (changed_there v (hearing_by (clocks v) x) w.members m there at)
        | inr other ↦ same_there v (hearing_by (clocks v) x) w.members m there other
      ]

  -- another than a listener is not moved
  pub busy : (m : Member) → Contains w.members m → (m.act ≡ Listens → ⊥) → fits m.flood x.packet ≡ false
  busy m there other = false_from_ne_true (fits m.flood x.packet) (λ fit. other (listens m there fit))

  pub runs_on : (y : Sending) → Runs w y → Runs next y
  runs_on y r = record { member = r.member; there = kept_there r.member r.there (busy r.member r.there (λ act. sends_not (sym r.act ∙ act))); act = r.act }
    where
      sends_not : Sends y ≡ Listens → ⊥
      sends_not same = cc
