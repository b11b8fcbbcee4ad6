-- A transmission starts: what runs then, what is sent, and what the medium holds.
use Rattle.std.proofs.Common.{◌≡◌, ℕ, ◌+◌, ◌^◌, ◌<◌, ◌≤◌, ◌⊎◌, List, [], ◌∷◌, ◌++◌, Option, Some, None, Bool, true, false, if◌then◌else◌, is_none}
use Rattle.std.proofs.Common.{option_to_list, inl, inr, refl, sym, ◌∙◌, ap, subst, arith}
use Rattle.std.specs.Prelude.{Contains}
use Rattle.std.specs.Option.{IfSome}
use Rattle.std.proofs.lemmas.Bool.{cases_eq, false≢true}
use Rattle.std.proofs.lemmas.List.{append-nil}
use Rattle.std.proofs.lemmas.List.Elements.{Contains-push, Contains-push_cases, Contains-append_left, All-contains}
use Rattle.std.proofs.lemmas.Option.{same_Some}
use Rattle.lwb_base.specs.Profile.{Numbers, one}
use Rattle.tick_clock.specs.Clocks.{due}
use Rattle.scenario_text.specs.FloodParts.{FloodParts}
use Rattle.radio_model.specs.declared.sending.Sending.{Sending}
use Rattle.radio_model.specs.declared.station.Station.{Station}
use Rattle.radio_model.specs.declared.tuning.Tuned.{Tuned as TunedTo}
use Rattle.radio_model.specs.OnAir.{Hearing, Tuning}
use Rattle.radio_model.specs.Hearing.{Scene}
use Rattle.radio_model.specs.Stations.{IsMedium, IsTime, station_of, station_after_start, current_or_next, next_sending}
use Rattle.radio_model.specs.Holding.{Holds, Agree, as_it_stands, after_starting, sending_at_start as starts}
use Rattle.radio_model.proofs.Agreement.{agree_on, agree_earlier}
use Rattle.radio_model.proofs.NothingBefore.{by_waiting, by_starting}
use Rattle.radio_model.proofs.AfterStarting.{holds_after_starting}
use Rattle.radio_model.proofs.Settled.{settled}
use Rattle.air_log.specs.Entries.{sendings_of, HasHeardEntry}
use Rattle.air_log.specs.NodeEvents.{Event, Ended}
use Rattle.air_log.specs.FloodLaw.{OPENING, sending_at}
use Rattle.lwb_flood.specs.declared.member.Act.{Act}
use Rattle.lwb_flood.specs.declared.member.Act.TheVariants.{Waits, Sends}
use Rattle.lwb_flood.specs.declared.member.Member.{Member}
use Rattle.lwb_flood.specs.FloodLog.{HasClocks}
use Rattle.lwb_flood.specs.FloodWorlds.{World, moment_of, NotAfter, ActsNext, member_with_act, world_after_start}
use Rattle.lwb_flood.proofs.WorldLists.{each_changed, changed_there, same_there, events_sent_own, events_sent_other}
use Rattle.air_log.proofs.LoggedEntries.{sendings_sent, hearings_sent, tunings_sent}
use Rattle.lwb_flood.proofs.FloodSoFar.{scene, standing, events_in, running, tuned_by, sending_by, IsWaiting, IsSending, Stands, IsMember, Runs, IsSettled}
use Rattle.lwb_flood.proofs.FloodSoFar.{IsSent, IsFloodSoFar}
use Rattle.lwb_flood.proofs.ActsTold.{waits_differ, sends_by, same_sends}
use Rattle.lwb_flood.proofs.SendingCauses.{cause_kept}
use Rattle.lwb_flood.proofs.NodesAndStations.{eight_in_step, lasting_in_step, one_member, member_of, of_medium, station_there, old_lasts}

-- what a station sends that begins
next_is : (p : Numbers) (t : ℕ) (packet : List ℕ) (u v : ℕ) (tuned : Option TunedTo) → p ≡ one → tuned ≡ Some (record { rank = 0; since = OPENING })
    → u ≡ v → next_sending p t packet u tuned ≡ Some (sending_at v t packet)
next_is p t packet u v tuned numbers is node =
    ap (next_sending p t packet u) is ∙ ap (λ (n : ℕ). next_sending p t packet n (Some (record { rank = 0; since = OPENING }))) node
    ∙ ap (λ (q : Numbers). next_sending q t packet v (Some (record { rank = 0; since = OPENING }))) numbers

begun_is : (p : Numbers) (t : ℕ) (packet : List ℕ) (st : Station) (y : Sending) → st.sending ≡ None → next_sending p t packet st.node st.tuning.now ≡ Some y
    → starts p t packet (Some st) ≡ Some y
begun_is p t packet st y silent is = ap (λ (s : Option Sending). if is_none s then next_sending p t packet st.node st.tuning.now else None) silent ∙ is

pub started_is : (p : Numbers) (t : ℕ) (packet : List ℕ) (st : Station) (y : Sending) → st.sending ≡ None
    → next_sending p t packet st.node st.tuning.now ≡ Some y → (station_after_start p t packet st).sending ≡ Some y
started_is p t packet st y silent is = ap (λ (s : Option Sending). current_or_next s (next_sending p t packet st.node st.tuning.now)) silent ∙ is

module _ (f : FloodParts) (clocks : ℕ → ℕ → ℕ) (has : HasClocks f clocks) (w : World) (medium : IsMedium w.medium) (so : IsFloodSoFar f clocks [] [] w)
    (m : Member) (there : Contains w.members m) (t : ℕ) (packet : List ℕ) (act : m.act ≡ Waits t packet) (next : ActsNext w.members m) where
  abbrev x : Sending
  x = sending_at m.node t packet

  abbrev behind : World
  behind = world_after_start x w

  pub is : IsMember f clocks [] w m
  is = so.each m there

  pub waits : IsWaiting f clocks w is.past m t packet
  waits = subst (λ (a : Act). Stands f clocks w [] is.past m a) act is.stands

  pub lasts : x.end ≡ t + 32768
  lasts = lasting_in_step f (sending_at m.node t packet) refl waits.step

  pub not_before : (n : Member) → Contains w.members n → IfSome (moment_of n.act) (λ l. NotAfter (t, true) l)
  not_before n in_it =
      let moment : next.moment ≡ (t, true) = same_Some next.moment (t, true) (sym next.own ∙ ap moment_of act) in
      subst (λ (k : ℕ × Bool). IfSome (moment_of n.act) (λ l. NotAfter k l)) moment
      (All-contains (λ (n : Member). IfSome (moment_of n.act) (λ l. NotAfter next.moment l)) w.members n next.first in_it)

  -- transmissions of others end later
  pub ends_later : (n : Member) (y : Sending) → Contains w.members n → n.act ≡ Sends y → t < y.end
  ends_later n y in_it sends = by_cases (subst (λ (a : Act). IfSome (moment_of a) (λ l. NotAfter (t, true) l)) sends (not_before n in_it))
    where
      by_cases : NotAfter (t, true) (y.end, false) → t < y.end
      by_cases (inl less) = less
      by_cases (inr same) = absurd (false≢true (same.1 refl))

  small : t ≤ 2 ^ 46
  small = let s = waits.step in let near = s.near.below in let few = s.small in omega (arith, near, few)

  pub begun_time : IsTime w.medium t
  begun_time = record {
    later = waits.later;
    small = small;
    running = λ st y in_it sends.
        let n = member_of f clocks has [] [] w medium so st in_it in
        let late = ends_later n.0 y n.1 (sends_by n.0.act y (sym n.3 ∙ sends)) in
        omega (arith, late);
  }

  -- its node does not run it yet, and its end is to come
  pub new : Contains (sendings_of w.air) x → ⊥
  new in_it = let s = so.sent x in_it in elim s.fate [ inl runs ↦ not_running runs | inr over ↦ omega (arith, over.ended, lasts, waits.later) ]
    where
      not_running : Runs w x → ⊥
      not_running runs =
          let n = runs.member in
          let stands : IsSending w n x = subst (λ (a : Act). Stands f clocks w [] (so.each n runs.there).past n a) runs.act (so.each n runs.there).stands in
          let node : m.node ≡ n.node = ap (λ (y : Sending). y.node) stands.own in
          let same : n ≡ m = one_member f clocks has [] [] w medium so n m runs.there there (sym node) in
          waits_differ t packet x (sym act ∙ ap (λ (k : Member). k.act) (sym same) ∙ runs.act)

  -- what runs now
  still_runs : (y : Sending) → Runs w y → Runs behind y
  still_runs y runs = record {
    member = runs.member;
    there = same_there m.node (member_with_act (Sends x)) w.members runs.member runs.there (λ node.
        let same = one_member f clocks has [] [] w medium so runs.member m runs.there there node in
        waits_differ t packet y (sym act ∙ ap (λ (k : Member). k.act) (sym same) ∙ runs.act));
    act = runs.act;
  }

  x_runs : Runs behind x
  x_runs = record { member = member_with_act (Sends x) m; there = changed_there m.node (member_with_act (Sends x)) w.members m there refl; act = refl }

  ran : (y : Sending) → Runs behind y → Runs w y ⊎ (x ≡ y)
  ran y runs = by_member runs.member runs.there runs.act
    where
      by_member : (n : Member) → Contains behind.members n → n.act ≡ Sends y → Runs w y ⊎ (x ≡ y)
      by_member = each_changed m.node (member_with_act (Sends x)) w.members (λ n. n.act ≡ Sends y → Runs w y ⊎ (x ≡ y))
          (λ n in_it node sends. inr (same_sends x y sends))
          (λ n in_it other sends. inl (record { member = n; there = in_it; act = sends }))

  pub over_still : (y : Sending) → Contains (sendings_of w.air) y → (Runs w y → ⊥) → Runs behind y → ⊥
  over_still y in_it over runs = elim (ran y runs) [
    | inl before ↦ over before
    | inr is ↦ new (subst (λ (z : Sending). Contains (sendings_of w.air) z) (sym is) in_it)
  ]

  -- what is sent
  pub sent_cases : (P : Sending → Type 0) → ((y : Sending) → Contains (sendings_of w.air) y → P y) → P x → (y : Sending)
      → Contains (sendings_of behind.air) y → P y
  sent_cases P old now y in_it =
      elim (Contains-push_cases (sendings_of w.air) x y (subst (λ (l : List Sending). Contains l y) (sendings_sent w.air x) in_it)) [
        | inl before ↦ old y before
        | inr is ↦ subst P is now
      ]

  pub sent_old : (y : Sending) → Contains (sendings_of w.air) y → Contains (sendings_of behind.air) y
  sent_old y in_it = subst (λ (l : List Sending). Contains l y) (sym (sendings_sent w.air x)) (Contains-append_left (sendings_of w.air) (x ∷ []) y in_it)

  pub sent_new : Contains (sendings_of behind.air) x
  sent_new = subst (λ (l : List Sending). Contains l x) (sym (sendings_sent w.air x)) (Contains-push (sendings_of w.air) x)

  pub heard_same : (v : ℕ) (y : Sending) → HasHeardEntry behind.air v y → HasHeardEntry w.air v y
  heard_same v y in_it = subst (λ (l : List Hearing). Contains l (record { node = v; sending = y })) (hearings_sent w.air x) in_it

  heard_back : (v : ℕ) (y : Sending) → HasHeardEntry w.air v y → HasHeardEntry behind.air v y
  heard_back v y in_it = subst (λ (l : List Hearing). Contains l (record { node = v; sending = y })) (sym (hearings_sent w.air x)) in_it

  pub begun_before : (y : Sending) → Contains (sendings_of w.air) y → y.start ≤ t
  begun_before y in_it = let early = (so.sent y in_it).begun in let later = waits.later in omega (arith, early, later)

  past_is : events_in w.air m.node ≡ is.past
  past_is = is.happened ∙ ap (λ (a : Act). is.past ++ running a) act ∙ append-nil is.past

  pub happened_here : events_in behind.air m.node ≡ is.past ++ Ended x ∷ []
  happened_here = events_sent_own w.air x m.node refl ∙ ap (λ (l : List Event). l ++ Ended x ∷ []) past_is

  events_more : (v : ℕ) → (fs : List Event) × (events_in behind.air v ≡ events_in w.air v ++ fs)
  events_more v = elim (cases_eq x.node v) [
    | inl own ↦ (Ended x ∷ [], events_sent_own w.air x v own)
    | inr other ↦ ([], events_sent_other w.air x v other ∙ sym (append-nil (events_in w.air v)))
  ]

  -- the medium's call
  pub silent : is.station.sending ≡ None
  silent = is.sends ∙ ap sending_by act

  pub tuned : is.station.tuning.now ≡ Some (record { rank = 0; since = OPENING })
  tuned = is.tuned ∙ ap tuned_by act

  pub its_next : next_sending w.medium.numbers t packet is.station.node is.station.tuning.now ≡ Some x
  its_next = next_is w.medium.numbers t packet is.station.node m.node is.station.tuning.now so.numbers tuned
      (station_there f clocks has [] [] w medium so m there is.station is.found).1

  call_starts : starts w.medium.numbers t packet (station_of w.medium m.node) ≡ Some x
  call_starts = ap (starts w.medium.numbers t packet) is.found ∙ begun_is w.medium.numbers t packet is.station x silent its_next

  scene_is : after_starting w.medium m.node t packet (scene f w) ≡ scene f behind
  scene_is =
      ap (λ (l : List Sending). record (scene f w) { sendings = l })
      (ap (λ (o : Option Sending). sendings_of w.air ++ option_to_list o) call_starts ∙ sym (sendings_sent w.air x))
      ∙ ap (λ (l : List Tuning). record (scene f behind) { tunings = l }) (sym (tunings_sent w.air x))

  pub holds : Holds behind.medium (scene f behind)
  holds =
      let long = eight_in_step f t packet waits.step in
      subst (Holds behind.medium) scene_is
      (holds_after_starting w.medium medium (scene f w) so.holds m.node (of_medium f clocks has [] [] w medium so m there) t waits.later packet
      (omega arith) (omega arith))

  agree : Agree w.medium.now (standing f w) (standing f behind)
  agree =
      agree_on w.medium.now (standing f w) (as_it_stands w.medium t (scene f w)) (standing f behind)
      (by_waiting w.medium w.medium.now t (scene f w) waits.later)
      (agree_earlier w.medium.now t (as_it_stands w.medium t (scene f w)) (standing f behind) waits.later
      (subst (λ (s : Scene). Agree t (as_it_stands w.medium t (scene f w)) (as_it_stands behind.medium t s)) scene_is
      (by_starting w.medium m.node t packet (scene f w))))

  settled_still : (y : Sending) → Contains (sendings_of w.air) y → IsSettled f [] w y → IsSettled f [] behind y
  settled_still y in_it s = record {
    ended = (let ended = s.ended in let later = waits.later in omega (arith, ended, later));
    over = over_still y in_it s.over;
    heard = λ v.
        let short = old_lasts f clocks has [] [] w medium so y in_it in
        let same = settled (standing f w) (standing f behind) v y (omega (arith, short))
        (agree_earlier y.end w.medium.now (standing f w) (standing f behind) s.ended agree) in (
          λ either. let r = (s.heard v).0 (elim either [ inl h ↦ inl (heard_same v y h) | inr due ↦ inr due ]) in (r.0, same.0 r.1),
          λ hears. elim ((s.heard v).1 (hears.0, same.1 hears.1)) [ inl h ↦ inl (heard_back v y h) | inr due ↦ inr due ],
        );
  }

  pub each_sent : (y : Sending) → Contains (sendings_of behind.air) y → IsSent f clocks [] behind y
  each_sent = sent_cases (λ y. IsSent f clocks [] behind y)
      (λ y in_it.
      let s = so.sent y in_it in
      let more = events_more y.node in
      record {
        known = s.known;
        lasts = s.lasts;
        begun = begun_before y in_it;
        step = s.step;
        cause = cause_kept f (clocks y.node) y.node y.start (events_in w.air y.node) more.0 (events_in behind.air y.node) y.packet more.1 s.cause;
        fate = elim s.fate [ inl runs ↦ inl (still_runs y runs) | inr over ↦ inr (settled_still y in_it over) ];
      })
      (record {
        known = is.known;
        lasts = refl;
        begun = omega arith;
        step = waits.step;
        cause = cause_kept f (clocks m.node) m.node t is.past (Ended x ∷ []) (events_in behind.air m.node) packet happened_here waits.cause;
        fate = inl x_runs;
      })
