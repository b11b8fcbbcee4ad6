-- The end of a transmission: it is over, those who receive it are given, and then its sender.
use Rattle.std.proofs.Common.{◌≡◌, ℕ, zero, suc, ◌<◌, ◌↔◌, List, [], ◌∷◌, ◌++◌, map, length, get_or, Some, None, refl, sym, ◌∙◌, ap, subst, arith, Contains}
use Rattle.std.proofs.Common.{inl, inr}
use Rattle.std.specs.Prelude.{All, AllPairs}
use Rattle.std.proofs.lemmas.Bool.{cases_eq}
use Rattle.std.proofs.lemmas.List.{append-nil, length-map, get_or-map}
use Rattle.std.proofs.lemmas.List.Elements.{All-contains, All-weaker}
use Rattle.std.proofs.lemmas.Option.{slice_get_within}
use Rattle.lwb_base.specs.declared.event.Event.TheVariants.{Sent}
use Rattle.link_trace.specs.Passes.{Lines}
use Rattle.radio_model.specs.declared.sending.Sending.{Sending}
use Rattle.radio_model.specs.OnAir.{Hearing}
use Rattle.radio_model.specs.Hearing.{Scene, HearsInScene}
use Rattle.radio_model.specs.Holding.{Holds, as_it_stands}
use Rattle.radio_model.specs.Stations.{MediumState, IsTime, nodes_of}
use Rattle.event_calendar.specs.Orders.{Due, changed}
use Rattle.event_calendar.specs.declared.class.Class.TheVariants.{SendingEnd}
use Rattle.bus_rules.specs.Cores.{Setup}
use Rattle.air_log.specs.Entries.{hearings_of, sendings_of}
use Rattle.air_log.specs.Devices.{Device, event}
use Rattle.lwb_base.proofs.Elements.{map_contains, map_from, contains_at}
use Rattle.air_log.specs.DeviceStates.{DeviceState}
use Rattle.world_engine.specs.Fields.{FieldState, FieldShows, FieldIsShown, id_of, ids_of}
use Rattle.world_engine.specs.FieldSteps.{Acts, EndsSending, hearing_at, told_of_hearing}
use Rattle.world_engine.specs.FieldHearings.{AllHear}
use Rattle.world_engine.proofs.GoesOn.{goes_on_then, same_ids, same_then}
use Rattle.world_engine.proofs.HearersAtPlaces.{id_at, node_there, place_there, places_ascend, one_id}
use Rattle.world_engine.proofs.HearersTold.{id_there, still_shown_to}
use Rattle.world_engine.proofs.HearingLoop.{HeardBy}
use Rattle.world_engine.proofs.EndedSendings.{IsEnding, over, sending_is_over}

abbrev first : ℕ × ℕ → ℕ
first r = r.0

-- what the medium says: these pairs of a hearer and the sender are all who receive x
pub record AreHearers (lines : Lines) (t u : ℕ) (x : Sending) (m : MediumState) (ps : List (ℕ × ℕ)) : Type 0 where
  pub sender : All (λ r. r.1 ≡ u) ps
  pub ascending : AllPairs (λ r s. r.0 < s.0) ps
  pub hear : (a : Scene) → Holds m a → a.lines ≡ lines → (v : ℕ) → Contains ps (v, u) ↔ (Contains (nodes_of m) v × HearsInScene (as_it_stands m t a) v x)

module _ (lines : Lines) (t u : ℕ) (x : Sending) (m : MediumState) (ps : List (ℕ × ℕ)) (are : AreHearers lines t u x m ps) where
  -- a hearer alone and with the sender
  as_node : (v : ℕ) → Contains ps (v, u) → Contains (map first ps) v
  as_node v there = map_contains first ps (v, u) there

  as_pair : (v : ℕ) → Contains (map first ps) v → Contains ps (v, u)
  as_pair v there =
      let w = map_from first ps v there in
      let by : w.0.1 ≡ u = All-contains (λ (r : ℕ × ℕ). r.1 ≡ u) ps w.0 are.sender w.1 in
      subst (λ (r : ℕ × ℕ). Contains ps r) (ap (λ (n : ℕ). (n, w.0.1)) w.2 ∙ ap (λ (n : ℕ). (v, n)) by) w.1

  nodes_ascend : AllPairs (λ a b. a < b) (map first ps)
  nodes_ascend i j d less within =
      let long = length-map ps first in
      let at_i = get_or-map first ps i (d, u) d (omega (arith, less, within, long)) in
      let at_j = get_or-map first ps j (d, u) d (omega (arith, within, long)) in
      let up = are.ascending i j (d, u) less (omega (arith, within, long)) in
      omega (arith, at_i, at_j, up)

  known_node : (a : Scene) → Holds m a → a.lines ≡ lines → (v : ℕ) → Contains (map first ps) v → Contains (nodes_of m) v
  known_node a held same v there = ((are.hear a held same v).0 (as_pair v there)).0

-- in the field mid the transmission x is over, and these receive it: nobody is notified yet
pub record HasEnded (lines : Lines) (t p u : ℕ) (w : FieldState) (due : List Due) (st : DeviceState) (x : Sending) (ps : List (ℕ × ℕ))
    (mid : FieldState) (mid_due : List Due) : Type 0 where
  pub ending : IsEnding t p w due st x
  pub hearers : AreHearers lines t u x w.medium ps
  pub is_over : mid ≡ over t p st w
  pub is_due : mid_due ≡ changed due p SendingEnd None
  pub keeps : (a : Scene) → Holds w.medium a → Holds mid.medium a

module _ {lines : Lines} {t p u : ℕ} {w : FieldState} {due : List Due} {st : DeviceState} {x : Sending} {ps : List (ℕ × ℕ)} {mid : FieldState}
    {mid_due : List Due} (it : HasEnded lines t p u w due st x ps mid mid_due) where
  acts : Acts t p (λ s d. record d { sending = None }) [] [] w due mid mid_due
  acts =
      subst (λ (q : List Due). Acts t p (λ s d. record d { sending = None }) [] [] w due mid q) (sym it.is_due)
      (subst (λ (v : FieldState). Acts t p (λ s d. record d { sending = None }) [] [] w due v (changed due p SendingEnd None)) (sym it.is_over)
      (sending_is_over it.ending
      (subst (λ (v : FieldState). (a : Scene) → Holds w.medium a → Holds v.medium a) it.is_over it.keeps)))

  ids : ids_of mid ≡ ids_of w
  ids = same_ids w mid due mid_due acts.same

  long : length mid.devices ≡ length w.devices
  long = sym (length-map mid.devices id_of) ∙ ap length ids ∙ length-map w.devices id_of

  -- what telling the hearers takes
  pub known_hearers : (a : Scene) × Holds w.medium a × (a.lines ≡ lines) → All (λ (r : ℕ × ℕ). Contains (ids_of mid) r.0) ps
  known_hearers scene k d below =
      let r : ℕ × ℕ = get_or ps k d in
      subst (λ (l : List ℕ). Contains l r.0) (sym (ids ∙ it.ending.field.nodes))
      (known_node lines t u x w.medium ps it.hearers scene.0 scene.1 scene.2 r.0 (map_contains first ps r (k, below, same_there ps k r d below)))
    where
      same_there : (qs : List (ℕ × ℕ)) (k : ℕ) (a b : ℕ × ℕ) → k < length qs → get_or qs k a ≡ get_or qs k b
      same_there [] k a b less = absurd (omega arith)
      same_there (q ∷ qs) zero a b less = refl
      same_there (q ∷ qs) (suc k) a b less = same_there qs k a b (omega arith)

  each_shown : (q : ℕ) → q < length mid.devices → FieldIsShown t mid mid_due q
  each_shown q below =
      let at = it.ending.shown q (omega (arith, below, long)) in
      elim (cases_eq q p) [
        | inl is ↦
            let here : FieldShows at.setup t w due p at.device = subst (λ (k : ℕ). FieldShows at.setup t w due k at.device) is at.shows in
            record {
              setup = at.setup;
              device = record (at.device) { sending = None };
              shows =
                  subst (λ (k : ℕ). FieldShows at.setup t mid mid_due k (record (at.device) { sending = None })) (sym is) (acts.own at.setup at.device here);
            }
        | inr other ↦ record { setup = at.setup; device = at.device; shows = acts.others q other at.setup at.device at.shows }
      ]

  -- at the end of x
  pub shown_at_end : (q : ℕ) → q < length mid.devices → FieldIsShown x.end mid mid_due q
  shown_at_end = subst (λ (k : ℕ). (q : ℕ) → q < length mid.devices → FieldIsShown k mid mid_due q) (sym it.ending.until) each_shown

  pub time_at_end : IsTime mid.medium x.end
  time_at_end = subst (λ (k : ℕ). IsTime mid.medium k) (sym it.ending.until) acts.air.time

  module _ (clocks : ℕ → ℕ → ℕ) {hd : FieldState} {hd_due : List Due} (heard : HeardBy clocks x (map first ps) mid mid_due hd hd_due) where
    all : AllHear clocks t x heard.0 mid mid_due hd hd_due
    all = subst (λ (k : ℕ). AllHear clocks k x heard.0 mid mid_due hd hd_due) it.ending.until heard.2

    pub sender_shown : FieldIsShown t hd hd_due p
    sender_shown = still_shown_to clocks t x heard.0 p mid hd mid_due hd_due all
        (each_shown p (let within = slice_get_within w.devices p st it.ending.here in omega (arith, within, long)))

    ascend_ids : AllPairs (λ a b. a < b) (ids_of mid)
    ascend_ids = subst (λ (l : List ℕ). AllPairs (λ a b. a < b) l) (sym (ids ∙ it.ending.field.nodes)) it.ending.field.medium.nodes.ascending

    -- the id at a place
    id_shown : (q : ℕ) (s : Setup) (d : Device) → FieldShows s t w due q d → id_at (ids_of mid) q ≡ s.id
    id_shown q s d shows = ap (λ (l : List ℕ). id_at l q) ids ∙ id_there w q shows.state shows.there ∙ ap (λ (k : Setup). k.id) shows.shows.setup

    hears_there : (a : Scene) → Holds w.medium a → a.lines ≡ lines → (q : ℕ) (s : Setup) (d : Device) → FieldShows s t w due q d → Contains heard.0 q
        → HearsInScene (as_it_stands w.medium t a) s.id x
    hears_there a held same q s d shows there =
        let node : Contains (map first ps) s.id = subst (λ (n : ℕ). Contains (map first ps) n) (id_shown q s d shows)
        (node_there (ids_of mid) (map first ps) heard.0 heard.1 q there) in
        ((it.hearers.hear a held same s.id).0 (as_pair lines t u x w.medium ps it.hearers s.id node)).1

    is_hearer : (a : Scene) → Holds w.medium a → a.lines ≡ lines → (q : ℕ) (s : Setup) (d : Device) → FieldShows s t w due q d
        → HearsInScene (as_it_stands w.medium t a) s.id x → Contains heard.0 q
    is_hearer a held same q s d shows hears =
        let is = id_shown q s d shows in
        let in_ids : Contains (ids_of w) s.id = subst (λ (n : ℕ). Contains (ids_of w) n) (ap (λ (k : Setup). k.id) shows.shows.setup)
        (map_contains id_of w.devices shows.state (contains_at w.devices q shows.state shows.there)) in
        let node : Contains (nodes_of w.medium) s.id = subst (λ (l : List ℕ). Contains l s.id) it.ending.field.nodes in_ids in
        let at = place_there (ids_of mid) (map first ps) heard.0 heard.1 s.id
        (as_node lines t u x w.medium ps it.hearers s.id ((it.hearers.hear a held same s.id).1 (node, hears))) in
        let within : q < length (ids_of mid) =
        (let below = slice_get_within w.devices q shows.state shows.there in let many = length-map mid.devices id_of in omega (arith, below, many, long)) in
        subst (λ (k : ℕ). Contains heard.0 k) (one_id (ids_of mid) ascend_ids at.0 q at.2 within (at.3 ∙ sym is)) at.1

    module _ {new : FieldState} {new_due : List Due} (told : Acts t p (λ s d. event (clocks p) s t Sent (Some x) d) [] [] hd hd_due new new_due) where
      hearing_in : List ℕ → ℕ → Hearing
      hearing_in l q = record { node = get_or l q 0; sending = x }

      all_hearings : hearings_of new.air ≡ hearings_of w.air ++ map (hearing_at w x) heard.0
      unfolding hearing_in
      all_hearings =
          told.hearings ∙ all.hearings ∙ ap (λ l. l ++ map (hearing_at mid x) heard.0) acts.hearings
          ∙ ap (λ (l : List ℕ). hearings_of w.air ++ map (hearing_in l) heard.0) ids

      pub sending_ends : EndsSending lines clocks t p x heard.0 w due new new_due
      sending_ends = record {
        ascending = places_ascend (ids_of mid) (map first ps) heard.0 heard.1 ascend_ids (nodes_ascend lines t u x w.medium ps it.hearers);
        heard = λ a held same q s d shows. (hears_there a held same q s d shows, is_hearer a held same q s d shows);
        within = All-weaker (λ (q : ℕ). q < length (ids_of mid)) (λ (q : ℕ). q < length w.devices)
            (λ q below. let many = length-map mid.devices id_of in omega (arith, below, many, long)) heard.0 heard.1.within;
        sender = λ not s d shows. told.own s (record d { sending = None }) (all.others p not s (record d { sending = None }) (acts.own s d shows));
        hearer = λ q there other s d shows. told.others q other s (told_of_hearing (clocks q) t x s d) (all.hearer q there s d (acts.others q other s d shows));
        others = λ q not other s d shows. told.others q other s d (all.others q not s d (acts.others q other s d shows));
        hearings = all_hearings;
        sendings = told.sendings ∙ append-nil (sendings_of hd.air) ∙ all.sendings ∙ acts.sendings ∙ append-nil (sendings_of w.air);
        drops = told.drops ∙ append-nil hd.drops ∙ all.drops ∙ acts.drops ∙ append-nil w.drops;
        air = goes_on_then t w.medium mid.medium new.medium [] [] acts.air (goes_on_then t mid.medium hd.medium new.medium [] [] all.air told.air);
        same = same_then w mid new due mid_due new_due acts.same (same_then mid hd new mid_due hd_due new_due all.same told.same);
      }
