-- At the closing all nodes go off that are still tuned in, one after another, and then the flood is over.
use Rattle.std.proofs.Common.{◌≡◌, ℕ, ◌+◌, ◌-◌, ◌*◌, ◌<◌, ◌≤◌, ◌⊎◌, List, [], ◌∷◌, ◌++◌, map, take, length, get_or, IfSome, Option, None, Bool, true, false}
use Rattle.std.proofs.Common.{◌==◌, if◌then◌else◌, inl, inr, refl, sym, ◌∙◌, ap, subst, arith, eqb-true, eq-eqb}
use Rattle.std.specs.Prelude.{Contains, AllPairs}
use Rattle.std.specs.List.{list_any}
use Rattle.std.proofs.lemmas.Bool.{cond_both, and_parts, and_from, false≢true}
use Rattle.std.proofs.lemmas.List.{take_more, get_or_past, append-nil}
use Rattle.tick_clock.specs.Clocks.{Near}
use Rattle.lwb_packets.specs.declared.kind.Kind.TheVariants.{Payload}
use Rattle.glossy_relay.specs.FloodState.{FloodState, listening, initiating}
use Rattle.glossy_relay.specs.Relaying.{fits, after_heard}
use Rattle.scenario_text.specs.FloodParts.{FloodParts}
use Rattle.bus_terms.specs.FloodOfText.{ids}
use Rattle.radio_model.specs.declared.sending.Sending.{Sending}
use Rattle.radio_model.specs.declared.station.Station.{Station}
use Rattle.radio_model.specs.Stations.{MediumState, IsMedium, IsTime, medium_after_change, station_changed_at, station_after_tuning}
use Rattle.radio_model.specs.OnAir.{Hearing}
use Rattle.air_log.specs.Entries.{sendings_of}
use Rattle.air_log.specs.NodeEvents.{Event, Heard, Ended, flood_after_event as after_event, flood_after_events, own_ends}
use Rattle.air_log.specs.FloodLaw.{FloodLaw, CLOSING, first_packet, first_flood}
use Rattle.lwb_base.proofs.Elements.{not_in_none, contains_head, contains_tail, contains_cases, map_from, Distinct, any_of, some_of}
use Rattle.lwb_base.proofs.Truths.{same_truth}
use Rattle.lwb_flood.specs.declared.member.Act.{Act}
use Rattle.lwb_flood.specs.declared.member.Act.TheVariants.{Listens, Waits, Sends, Off}
use Rattle.lwb_flood.specs.declared.member.Member.{Member}
use Rattle.lwb_flood.specs.FloodLog.{HasClocks}
use Rattle.lwb_flood.specs.FloodWorlds.{World, IsShape, node_of_member, moment_of, member_with_act, gone, is_off, stays, world_closed_at, closed_all}
use Rattle.lwb_flood.proofs.ActsTold.{sends_by}
use Rattle.lwb_flood.proofs.FloodGone.{gone_keeps}
use Rattle.lwb_flood.proofs.FloodHearers.{ascend_distinct}
use Rattle.lwb_flood.proofs.FloodOver.{law_of}
use Rattle.lwb_flood.proofs.FloodShapes.{gone_shape}
use Rattle.lwb_flood.proofs.FloodSoFar.{events_in, running, IsListening, IsMember, Stands, InStep, IsFloodSoFar}
use Rattle.lwb_flood.proofs.NodesAndStations.{one_member, known_member, member_of, old_lasts}
use Rattle.lwb_flood.proofs.TunedWindows.{sent_among}
use Rattle.lwb_flood.proofs.WorldLists.{one_of_mark, each_changed, nodes_kept}

-- one node after another
closed_push : (us : List ℕ) (v : ℕ) (w : World) → closed_all (us ++ v ∷ []) w ≡ world_closed_at v (closed_all us w)
closed_push [] v w = refl
closed_push (u ∷ us) v w = closed_push us v (world_closed_at u w)

pub closed_more : (vs : List ℕ) (i v : ℕ) (w : World) → i < length vs → v ≡ get_or vs i v
    → closed_all (take (i + 1) vs) w ≡ world_closed_at v (closed_all (take i vs) w)
closed_more vs i v w below at = ap (λ (l : List ℕ). closed_all l w) (take_more vs i v below ∙ ap (λ (n : ℕ). take i vs ++ n ∷ []) (sym at))
    ∙ closed_push (take i vs) v w

-- what holds of a world and stays so when a node goes off at the closing holds in the end
closed_stays : (P : World → Type 0) → ((v : ℕ) (w : World) → P w → P (gone v CLOSING w)) → (us : List ℕ) (w : World) → P w → P (closed_all us w)
closed_stays P goes [] w is = is
closed_stays P goes (u ∷ us) w is = closed_stays P goes us (world_closed_at u w)
    (cond_both (list_any (stays u) w.members) w (gone u CLOSING w) P (λ _. is) (λ _. goes u w is))

pub closed_nodes : (us : List ℕ) (w : World) → map node_of_member (closed_all us w).members ≡ map node_of_member w.members
closed_nodes us w = closed_stays (λ (z : World). map node_of_member z.members ≡ map node_of_member w.members)
    (λ v z is. nodes_kept v (member_with_act Off) (λ m. refl) z.members ∙ is) us w refl

gone_time : (m : MediumState) (v : ℕ) → IsTime m CLOSING → IsTime (medium_after_change CLOSING v (station_after_tuning None CLOSING) m) CLOSING
gone_time m v is = record {
  later = omega arith;
  small = is.small;
  running = λ st x there sends.
      let s = map_from (station_changed_at v (station_after_tuning None CLOSING)) m.stations st there in
      is.running s.0 x s.1 (sym (same s.0) ∙ ap (λ (k : Station). k.sending) s.2 ∙ sends);
}
  where
    same : (s : Station) → (station_changed_at v (station_after_tuning None CLOSING) s).sending ≡ s.sending
    same s = cond_both (s.node == v) (station_after_tuning None CLOSING s) s (λ (k : Station). k.sending ≡ s.sending) (λ _. refl) (λ _. refl)

pub closed_time : (us : List ℕ) (w : World) → IsTime w.medium CLOSING → IsTime (closed_all us w).medium CLOSING
closed_time us w is = closed_stays (λ (z : World). IsTime z.medium CLOSING) (λ v z time. gone_time z.medium v time) us w is

stays_is : (ms : List Member) → Distinct (map node_of_member ms) → (m : Member) → Contains ms m → list_any (stays m.node) ms ≡ is_off m.act
stays_is ms distinct m there = same_truth (list_any (stays m.node) ms) (is_off m.act) itself
    (λ off. any_of (stays m.node) ms m there (and_from (m.node == m.node) (is_off m.act) (eq-eqb m.node m.node refl) off))
  where
    itself : list_any (stays m.node) ms ≡ true → is_off m.act ≡ true
    itself some =
        let n = some_of (stays m.node) ms some in
        let both = and_parts (n.0.node == m.node) (is_off n.0.act) n.2 in
        subst (λ (k : Member). is_off k.act ≡ true) (one_of_mark node_of_member ms distinct n.0 m n.1 there (eqb-true n.0.node m.node both.0)) both.1

pub closed_at : (w : World) → IsShape w → (i : ℕ) (m : Member) → i < length w.members → m ≡ get_or w.members i m
    → world_closed_at m.node w ≡ (if is_off m.act then w else gone m.node CLOSING w)
closed_at w is i m below at =
    ap (λ (b : Bool). if b then w else gone m.node CLOSING w)
    (stays_is w.members (ascend_distinct (map node_of_member w.members) (subst (AllPairs (λ a b. a < b)) (sym is.nodes) is.medium.nodes.ascending)) m
    (i, below, sym at))

off_is : (a : Act) → is_off a ≡ true → a ≡ Off
off_is Listens is = absurd (false≢true is)
off_is (Waits t packet) is = absurd (false≢true is)
off_is (Sends x) is = absurd (false≢true is)
off_is Off is = refl

listens_by : (a : Act) → moment_of a ≡ None → is_off a ≡ false → a ≡ Listens
listens_by Listens quiet not = refl
listens_by (Waits t packet) quiet not = absurd (cc)
listens_by (Sends x) quiet not = absurd (cc)
listens_by Off quiet not = absurd (cc)

not_sending : (a : Act) (x : Sending) → a ≡ Sends x → moment_of a ≡ None → ⊥
not_sending a x is quiet = no_moment (sym (ap moment_of is) ∙ quiet)
  where
    no_moment : moment_of (Sends x) ≡ None → ⊥
    no_moment same = cc

none_then : {X : Type 0} (o : Option X) (P : X → Type 0) → o ≡ None → IfSome o P
none_then o P is = subst (λ (p : Option _). IfSome p P) (sym is) tt

-- the limit of a flood stays
pub kept_limit : (s : FloodState) (es : List Event) → (flood_after_events s es).limit ≡ s.limit
kept_limit s [] = refl
kept_limit s (Heard x ∷ es) = kept_limit (after_heard s x.packet) es ∙ limit_kept (fits s x.packet) _ _
  where
    limit_kept : (b c : Bool) (p : Option (List ℕ)) → (if b then record s { waiting = c; first = p } else s).limit ≡ s.limit
    limit_kept true c p = refl
    limit_kept false c p = refl
kept_limit s (Ended x ∷ es) = kept_limit (after_event s (Ended x)) es

-- nobody has anything to do any more
pub record IsClosing (f : FloodParts) (clocks : ℕ → ℕ → ℕ) (w : World) : Type 0 where
  pub so : IsFloodSoFar f clocks [] [] w
  pub medium : IsMedium w.medium
  pub quiet : (m : Member) → Contains w.members m → moment_of m.act ≡ None
  pub early : w.medium.now ≤ CLOSING

module _ (f : FloodParts) (clocks : ℕ → ℕ → ℕ) (has : HasClocks f clocks) where
  pub closing_time : (w : World) → IsClosing f clocks w → IsTime w.medium CLOSING
  closing_time w is = record {
    later = is.early;
    small = omega arith;
    running = λ st x there sends.
        let n = member_of f clocks has [] [] w is.medium is.so st there in
        absurd (not_sending n.0.act x (sends_by n.0.act x (sym n.3 ∙ sends)) (is.quiet n.0 n.1));
  }

  module _ (w : World) (is : IsClosing f clocks w) where
    shape : IsShape w
    shape = record { nodes = is.so.nodes ∙ sym is.so.stations; medium = is.medium }

    -- a node that listens has sent fewer times than it may
    closes_late : (m : Member) → Contains w.members m → m.act ≡ Listens → get_or (own_ends (events_in w.air m.node)) (f.sends - 1) CLOSING ≡ CLOSING
    closes_late m there act = ap (λ (es : List Event). get_or (own_ends es) (f.sends - 1) CLOSING) past_is
        ∙ get_or_past (own_ends each.past) (f.sends - 1) CLOSING few
      where
        each : IsMember f clocks [] w m
        each = is.so.each m there

        past_is : events_in w.air m.node ≡ each.past
        past_is = each.happened ∙ ap (λ (a : Act). each.past ++ running a) act ∙ append-nil each.past

        listened : IsListening [] m
        listened = subst (λ (a : Act). Stands f clocks w [] each.past m a) act each.stands

        left : m.flood.sent < m.flood.limit
        left = elim listened.left [ inl less ↦ less | inr leaves ↦ absurd (not_in_none m.node leaves) ]

        first_sent : (first_flood f m.node).sent ≡ 0
        first_sent = cond_both (f.start == m.node) (initiating (first_packet f.start) f.sends) (listening Payload 1 f.sends)
            (λ (s : FloodState). s.sent ≡ 0) (λ _. refl) (λ _. refl)

        first_limit : (first_flood f m.node).limit ≡ f.sends
        first_limit = cond_both (f.start == m.node) (initiating (first_packet f.start) f.sends) (listening Payload 1 f.sends)
            (λ (s : FloodState). s.limit ≡ f.sends) (λ _. refl) (λ _. refl)

        sent_is : m.flood.sent ≡ length (own_ends each.past)
        sent_is =
            let flood : m.flood.sent ≡ (flood_after_events (first_flood f m.node) each.past).sent = ap (λ (s : FloodState). s.sent) each.flood in
            omega (arith, flood, sent_among (first_flood f m.node) each.past, first_sent)

        limit_is : m.flood.limit ≡ f.sends
        limit_is = ap (λ (s : FloodState). s.limit) each.flood ∙ kept_limit (first_flood f m.node) each.past ∙ first_limit

        few : length (own_ends each.past) ≤ f.sends - 1
        few = omega (arith, left, sent_is, limit_is)

    gone_closing : (m : Member) → Contains w.members m → m.act ≡ Listens → IsClosing f clocks (gone m.node CLOSING w)
    gone_closing m there act = record {
      so = gone_keeps f clocks has [] [] w is.medium is.so m (λ u in_it. absurd (not_in_none u in_it)) there act CLOSING is.early (omega arith)
          (λ n in_it. none_then (moment_of n.act) (λ l. CLOSING ≤ l.0) (is.quiet n in_it)) (λ h in_it. absurd (not_in_none h in_it))
          (closes_late m there act) (inr (omega arith));
      medium = (gone_shape w shape m.node CLOSING).medium;
      quiet =
          each_changed m.node (member_with_act Off) w.members (λ (n : Member). moment_of n.act ≡ None) (λ n in_it at. refl) (λ n in_it other. is.quiet n in_it);
      early = omega arith;
    }

    closing_member : (m : Member) → Contains w.members m → IsClosing f clocks (world_closed_at m.node w)
    closing_member m there =
        cond_both (list_any (stays m.node) w.members) w (gone m.node CLOSING w) (IsClosing f clocks) (λ _. is)
        (λ none. gone_closing m there
        (listens_by m.act (is.quiet m there)
        (sym (stays_is w.members
        (ascend_distinct (map node_of_member w.members) (subst (AllPairs (λ a b. a < b)) (sym shape.nodes) is.medium.nodes.ascending)) m there) ∙ none)))

    pub closing_more : (v : ℕ) → Contains (ids f.nodes) v → IsClosing f clocks (world_closed_at v w)
    closing_more v there =
        let m = map_from node_of_member w.members v (subst (λ (l : List ℕ). Contains l v) (sym is.so.nodes) there) in
        subst (λ (u : ℕ). IsClosing f clocks (world_closed_at u w)) m.2 (closing_member m.0 m.1)

  -- the nodes that are not off are among these
  abbrev Rest : List ℕ → World → Type 0
  Rest us w = (m : Member) → Contains w.members m → Contains us m.node ⊎ (m.act ≡ Off)

  rest_more : (v : ℕ) (us : List ℕ) (w : World) → IsClosing f clocks w → Rest (v ∷ us) w → Rest us (world_closed_at v w)
  rest_more v us w is rest = cond_both (list_any (stays v) w.members) w (gone v CLOSING w) (Rest us) was_off (λ _. goes_off)
    where
      fewer : (m : Member) → (v ≡ m.node → Contains us m.node ⊎ (m.act ≡ Off)) → Contains (v ∷ us) m.node ⊎ (m.act ≡ Off) → Contains us m.node ⊎ (m.act ≡ Off)
      fewer m itself (inl in_it) = elim (contains_cases v us m.node in_it) [ inl here ↦ itself here | inr later ↦ inl later ]
      fewer m itself (inr off) = inr off

      was_off : list_any (stays v) w.members ≡ true → Rest us w
      was_off some m there =
          let n = some_of (stays v) w.members some in
          let both = and_parts (n.0.node == v) (is_off n.0.act) n.2 in
          fewer m
          (λ here. inr (ap (λ (k : Member). k.act)
          (one_member f clocks has [] [] w is.medium is.so m n.0 there n.1 (sym here ∙ sym (eqb-true n.0.node v both.0))) ∙ off_is n.0.act both.1))
          (rest m there)

      goes_off : Rest us (gone v CLOSING w)
      goes_off = each_changed v (member_with_act Off) w.members (λ (m : Member). Contains us m.node ⊎ (m.act ≡ Off)) (λ m there at. inr refl)
          (λ m there other. fewer m (λ here. absurd (other (sym here))) (rest m there))

  closing_all : (us : List ℕ) (w : World) → IsClosing f clocks w → ((u : ℕ) → Contains us u → Contains (ids f.nodes) u) → Rest us w
      → IsClosing f clocks (closed_all us w) × Rest [] (closed_all us w)
  closing_all [] w is of_text rest = (is, rest)
  closing_all (u ∷ us) w is of_text rest =
      closing_all us (world_closed_at u w) (closing_more w is u (of_text u (contains_head u us))) (λ n there. of_text n (contains_tail u us n there))
      (rest_more u us w is rest)

  -- all of them
  module _ (vs : List ℕ) (all : vs ≡ ids f.nodes) (w : World) (is : IsClosing f clocks w) where
    whole : IsClosing f clocks (closed_all vs w) × Rest [] (closed_all vs w)
    whole = closing_all vs w is (λ u there. subst (λ (l : List ℕ). Contains l u) all there)
        (λ m there. inl (subst (λ (l : List ℕ). Contains l m.node) (sym all) (known_member f clocks has [] [] w is.medium is.so m there)))

    pub closed_keeps : IsClosing f clocks (closed_all vs w)
    closed_keeps = whole.0

    pub closed_off : (m : Member) → Contains (closed_all vs w).members m → m.act ≡ Off
    closed_off m there = elim (whole.1 m there) [ inl none ↦ absurd (not_in_none m.node none) | inr off ↦ off ]

    pub closed_law : FloodLaw f clocks (closed_all vs w).air
    closed_law = law_of f clocks has (closed_all vs w) closed_keeps.so closed_off

-- all starts and ends are before the closing
pub starts_early : (f : FloodParts) (t : ℕ) (packet : List ℕ) → InStep f t packet → t + 32768 < CLOSING
starts_early f t packet step =
    let near : Near t (1344064000 + step.step * 45056) step.step = step.near in let small : step.step ≤ 11 = step.small in omega (arith, near, small)

module _ (f : FloodParts) (clocks : ℕ → ℕ → ℕ) (has : HasClocks f clocks) (todo : List Hearing) (leaving : List ℕ) (w : World)
    (medium : IsMedium w.medium) (so : IsFloodSoFar f clocks todo leaving w) where
  pub ends_early : (x : Sending) → Contains (sendings_of w.air) x → x.end < CLOSING
  ends_early x there =
      let lasts = old_lasts f clocks has todo leaving w medium so x there in let start = starts_early f x.start x.packet (so.sent x there).step in
      omega (arith, lasts, start)
