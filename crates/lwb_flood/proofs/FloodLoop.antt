-- The loop of a flood: what holds of its world before each step, and that steps come to an end.
use Rattle.std.proofs.Common.{◌≡◌, ℕ, ◌+◌, ◌-◌, ◌<◌, ◌≤◌, List, [], ◌∷◌, ◌++◌, map, length, get_or, Bool, true, false, nat_eq, if◌then◌else◌, Option}
use Rattle.std.proofs.Common.{Some, None, inl, inr, refl, sym, ◌∙◌, ap, subst, arith}
use Rattle.std.specs.Prelude.{Contains, All, IfSome}
use Rattle.std.proofs.lemmas.Bool.{cond-true, cond-false, cond_both, eqb-true}
use Rattle.std.proofs.lemmas.List.Elements.{filter_map-append}
use Rattle.std.proofs.lemmas.List.{length-append, append-nil, get_or_default}
use Rattle.lwb_base.specs.Profile.{one}
use Rattle.glossy_relay.specs.FloodState.{FloodState}
use Rattle.scenario_text.specs.FloodParts.{FloodParts}
use Rattle.bus_terms.specs.FloodOfText.{ids}
use Rattle.radio_model.specs.declared.sending.Sending.{Sending}
use Rattle.radio_model.specs.Stations.{nodes_of}
use Rattle.air_log.specs.FloodLaw.{CLOSING, first_flood, sending_at}
use Rattle.air_log.specs.NodeEvents.{Event, Ended, own_end, own_ends}
use Rattle.lwb_base.proofs.Elements.{Distinct}
use Rattle.lwb_flood.specs.declared.member.Act.{Act}
use Rattle.lwb_flood.specs.declared.member.Act.TheVariants.{Listens, Waits, Sends, Off}
use Rattle.lwb_flood.specs.declared.member.Member.{Member}
use Rattle.lwb_flood.specs.FloodLog.{HasClocks}
use Rattle.lwb_flood.specs.FloodWorlds.{World, IsShape, node_of_member, first_world, moment_of, NotAfter, ActsNext, world_after_start, own_ended, gone}
use Rattle.lwb_flood.specs.FloodWorlds.{world_after_end, world_after_reception, heard_by_all, is_last, after_own, CanStep, WorldSteps, Ended as EndedTo}
use Rattle.lwb_flood.specs.FloodWorlds.{IsHeardBy}
use Rattle.lwb_flood.proofs.FloodBegun.{begun_keeps}
use Rattle.lwb_flood.proofs.FloodClosing.{IsClosing, starts_early, ends_early, kept_limit}
use Rattle.lwb_flood.proofs.FloodEnded.{own_ended_keeps}
use Rattle.lwb_flood.proofs.FloodFirst.{first_keeps}
use Rattle.lwb_flood.proofs.FloodGone.{gone_keeps}
use Rattle.lwb_flood.proofs.FloodHeard.{heard_by_all_keeps}
use Rattle.lwb_flood.proofs.FloodHearers.{ascend_distinct, last_is}
use Rattle.lwb_flood.proofs.FloodMeasure.{started, remaining, begun_less, ended_less, all_heard_at_most}
use Rattle.lwb_flood.proofs.FloodOpening.{at_first, opened_is, sound_nodes, first_shape}
use Rattle.lwb_flood.proofs.FloodShapes.{begun_shape, own_ended_shape, gone_shape, heard_shape}
use Rattle.lwb_flood.proofs.FloodSoFar.{IsFloodSoFar, IsMember, IsWaiting, IsSending, running, scene, events_in}
use Rattle.lwb_flood.proofs.NodeGone.{ended_over}
use Rattle.lwb_flood.proofs.NodesAndStations.{one_member, old_lasts}
use Rattle.lwb_flood.proofs.SendingBegun.{begun_time}
use Rattle.lwb_flood.proofs.SendingOver.{heard_at, own_node, own_waits, own_runs, ended_time, own_ends as own_end_there}
use Rattle.lwb_flood.proofs.TunedWindows.{sent_among}
use Rattle.lwb_flood.proofs.WorldLists.{changed_there, each_changed}
use Rattle.lwb_flood.proofs.FloodClocks.{heard_by_same}

first_is : (f : FloodParts) (v : ℕ) → ((first_flood f v).limit ≡ f.sends) × ((first_flood f v).sent ≡ 0)
first_is f v = cond_both (nat_eq f.start v) _ _ (λ (s : FloodState). (s.limit ≡ f.sends) × (s.sent ≡ 0)) (λ _. (refl, refl)) (λ _. (refl, refl))

ends_more : (es : List Event) (x : Sending) → own_ends (es ++ Ended x ∷ []) ≡ own_ends es ++ x.end ∷ []
ends_more es x = filter_map-append own_end es (Ended x ∷ [])

get_last : (xs : List ℕ) (y i other : ℕ) → i ≡ length xs → get_or (xs ++ y ∷ []) i other ≡ y
get_last [] y i other at = ap (λ (k : ℕ). get_or (y ∷ []) k other) at
get_last (x ∷ xs) y i other at = ap (λ (k : ℕ). get_or (x ∷ xs ++ y ∷ []) k other) at ∙ get_last xs y (length xs) other refl

pub record IsRunning (f : FloodParts) (clocks : ℕ → ℕ → ℕ) (w : World) : Type 0 where
  pub so : IsFloodSoFar f clocks [] [] w
  pub shape : IsShape w
  pub early : w.medium.now < CLOSING

module _ (f : FloodParts) (clocks : ℕ → ℕ → ℕ) (has : HasClocks f clocks) where
  pub running_first : IsRunning f clocks (first_world f)
  running_first = record {
    so = first_keeps f clocks has;
    shape = first_shape f (sound_nodes f has.sound);
    early = (let by = (opened_is (ids f.nodes) (ids f.nodes) (Rattle.radio_model.specs.Stations.first_state one (ids f.nodes))
        (at_first one (ids f.nodes))).early in omega arith);
  }

  module _ (w : World) (is : IsRunning f clocks w) (m : Member) (there : Contains w.members m) (next : ActsNext w.members m) where
    medium : Rattle.radio_model.specs.Stations.IsMedium w.medium
    medium = is.shape.medium

    member : IsMember f clocks [] w m
    member = is.so.each m there

    counted : (m.flood.sent ≡ length (own_ends member.past)) × (m.flood.limit ≡ f.sends)
    counted =
        let first = first_is f m.node in (
          omega (arith, ap (λ (s : FloodState). s.sent) member.flood, sent_among (first_flood f m.node) member.past, first.1),
          ap (λ (s : FloodState). s.limit) member.flood ∙ kept_limit (first_flood f m.node) member.past ∙ first.0,
        )

    begun_so_far : started w.air m.node ≡ length (own_ends (member.past ++ running m.act))
    begun_so_far = ap (λ (es : List Event). length (own_ends es)) member.happened

    none_busy : (let o : Option (ℕ × Bool) = None in (k : ℕ × Bool) → o ≡ Some k → ⊥)
    none_busy k same = cc

    -- a transmission of this node starts
    module _ (t : ℕ) (packet : List ℕ) (act : m.act ≡ Waits t packet) where
      waits : IsWaiting f clocks w member.past m t packet
      waits = subst (λ (a : Act). Rattle.lwb_flood.proofs.FloodSoFar.Stands f clocks w [] member.past m a) act member.stands

      room : m.flood.sent + started w.air m.node < m.flood.limit + m.flood.limit
      room =
          let count : started w.air m.node ≡ length (own_ends member.past) = begun_so_far
          ∙ ap (λ (a : Act). length (own_ends (member.past ++ running a))) act ∙ ap (λ (es : List Event). length (own_ends es)) (append-nil member.past) in
          let left = waits.left in
          omega (arith, count, counted.0)

      can_start : CanStep f.trace w m (Waits t packet)
      can_start = begun_time f clocks has w medium is.so m there t packet act next

      started_on : (new : World) → new ≡ world_after_start (sending_at m.node t packet) w → IsRunning f clocks new × (remaining new < remaining w)
      started_on new same =
          let x : Sending = sending_at m.node t packet in
          let on : IsRunning f clocks (world_after_start x w) = record {
            so = begun_keeps f clocks has w medium is.so m there t packet act next;
            shape = begun_shape w is.shape x;
            early = (let early = starts_early f t packet waits.step in omega arith);
          } in
          (subst (IsRunning f clocks) (sym same) on, subst (λ (n : World). remaining n < remaining w) (sym same) (begun_less x w m there refl room))

    -- a transmission of this node ends
    module _ (x : Sending) (act : m.act ≡ Sends x) where
      sends : IsSending w m x
      sends = subst (λ (a : Act). Rattle.lwb_flood.proofs.FloodSoFar.Stands f clocks w [] member.past m a) act member.stands

      node : x.node ≡ m.node
      node = own_node f clocks has w medium is.so m there x act next

      early_end : x.end < CLOSING
      early_end = ends_early f clocks has [] [] w medium is.so x sends.sent

      can_end : CanStep f.trace w m (Sends x)
      can_end = record {
        node = node;
        time = ended_time f clocks has w medium is.so m there x act next;
        ends = own_end_there f clocks has w medium is.so m there x act next;
        sends = own_runs f clocks has w medium is.so m there x act next;
        held = (scene f w, is.so.holds, refl);
        waits = λ k d below same.
            let n : Member = get_or w.members k d in
            let in_it : Contains w.members n = (k, below, get_or_default w.members k n d below) in
            let one : n ≡ m = one_member f clocks has [] [] w medium is.so n m in_it there (same ∙ node) in
            ap (λ (z : Member). z.flood.waiting) one ∙ own_waits f clocks has w medium is.so m there x act next;
        early = omega (arith, early_end);
      }

      count : started w.air m.node ≡ length (own_ends member.past) + 1
      count = begun_so_far ∙ ap (λ (a : Act). length (own_ends (member.past ++ running a))) act ∙ ap length (ends_more member.past x)
          ∙ length-append (own_ends member.past) (x.end ∷ [])

      end_room : m.flood.sent + started w.air m.node < m.flood.limit + m.flood.limit
      end_room = (let left = sends.left in omega (arith, count, counted.0))

      module _ (vs : List ℕ) (by : IsHeardBy f.trace x w vs) where
        own : IsFloodSoFar f clocks (map (heard_at x) vs) (if is_last x.node w.members then x.node ∷ [] else []) (own_ended x w)
        own = own_ended_keeps f clocks has w medium is.so m there x act next vs (ascend_distinct vs by.ascending)
            (λ v. by.hearers (scene f w) is.so.holds refl v)

        -- the node as it is then
        abbrev left_node : Member
        left_node = after_own m

        left_there : Contains (own_ended x w).members left_node
        left_there = changed_there x.node after_own w.members m there (sym node)

        late : (n : Member) → Contains (own_ended x w).members n → IfSome (moment_of n.act) (λ l. x.end ≤ l.0)
        late = each_changed x.node after_own w.members (λ (n : Member). IfSome (moment_of n.act) (λ l. x.end ≤ l.0)) (λ n in_it same. tt)
            (λ n in_it other. by_next n in_it)
          where
            moment_is : next.moment ≡ (x.end, false)
            moment_is = some_moment (sym next.own ∙ ap moment_of act)
              where
                some_moment : {k l : ℕ × Bool} → (let o : Option (ℕ × Bool) = Some k in o ≡ Some l) → k ≡ l
                some_moment same = cc

            by_moment : (o : Option (ℕ × Bool)) → IfSome o (λ l. NotAfter next.moment l) → IfSome o (λ l. x.end ≤ l.0)
            by_moment None all = tt
            by_moment (Some l) (inl less) = omega (arith, ap (λ (k : ℕ × Bool). k.0) moment_is, less)
            by_moment (Some l) (inr same) = omega (arith, ap (λ (k : ℕ × Bool). k.0) moment_is, same.0)

            by_next : (n : Member) → Contains w.members n → IfSome (moment_of n.act) (λ l. x.end ≤ l.0)
            by_next n (k, below, at) = by_moment (moment_of n.act)
                (subst (λ (z : Member). IfSome (moment_of z.act) (λ l. NotAfter next.moment l)) at (next.first k n below))

        off : is_last x.node w.members ≡ true → IsFloodSoFar f clocks (map (heard_at x) vs) [] (gone x.node x.end (own_ended x w))
        off last =
            let last_one : m.flood.sent + 1 ≡ m.flood.limit =
            eqb-true (m.flood.sent + 1) m.flood.limit (sym (last_is x.node w.members m (ascend_distinct_nodes) there (sym node)) ∙ last) in
            let events : events_in w.air m.node ≡ member.past ++ Ended x ∷ [] = member.happened ∙ ap (λ (a : Act). member.past ++ running a) act in
            let at_end : get_or (own_ends (events_in w.air m.node)) (f.sends - 1) CLOSING ≡ x.end =
            ap (λ (es : List Event). get_or (own_ends es) (f.sends - 1) CLOSING) events
            ∙ ap (λ (ends : List ℕ). get_or ends (f.sends - 1) CLOSING) (ends_more member.past x)
            ∙ get_last (own_ends member.past) x.end (f.sends - 1) CLOSING (omega (arith, last_one, counted.0, counted.1)) in
            subst (λ (v : ℕ). IsFloodSoFar f clocks (map (heard_at x) vs) [] (gone v x.end (own_ended x w))) (sym node)
            (gone_keeps f clocks has (map (heard_at x) vs) (if is_last x.node w.members then x.node ∷ [] else []) (own_ended x w)
            (own_ended_shape w is.shape x).medium own left_node only left_there refl x.end
            (omega arith) (let start = (is.so.sent x sends.sent).step.near in let step = (is.so.sent x sends.sent).step in
            let lasts = old_lasts f clocks has [] [] w medium is.so x sends.sent in omega (arith, start, lasts)) late (λ h in_it. refl) at_end
            (inl last_one))
          where
            ascend_distinct_nodes : Distinct (map node_of_member w.members)
            ascend_distinct_nodes = subst Distinct (sym is.shape.nodes) (ascend_distinct (nodes_of w.medium) medium.nodes.ascending)

            only : (u : ℕ) → Contains (if is_last x.node w.members then x.node ∷ [] else []) u → u ≡ m.node
            only u = cond_both (is_last x.node w.members) (x.node ∷ []) [] (λ (l : List ℕ). Contains l u → u ≡ m.node)
                (λ _ in_it. elim (Rattle.lwb_base.proofs.Elements.contains_cases x.node [] u in_it) [
                  | inl same ↦ sym same ∙ node
                  | inr none ↦ absurd (Rattle.lwb_base.proofs.Elements.not_in_none u none)
                ])
                (λ _ in_it. absurd (Rattle.lwb_base.proofs.Elements.not_in_none u in_it))

        left_off : IsFloodSoFar f clocks (map (heard_at x) vs) [] (world_after_end x w) × IsShape (world_after_end x w)
            × ((world_after_end x w).medium.now < CLOSING)
        left_off = by_last (is_last x.node w.members) refl
          where
            by_last : (b : Bool) → is_last x.node w.members ≡ b
                → IsFloodSoFar f clocks (map (heard_at x) vs) [] (world_after_end x w) × IsShape (world_after_end x w)
                × ((world_after_end x w).medium.now < CLOSING)
            by_last true last =
                subst (λ (n : World). IsFloodSoFar f clocks (map (heard_at x) vs) [] n × IsShape n × (n.medium.now < CLOSING))
                (sym (cond-true (is_last x.node w.members) (gone x.node x.end (own_ended x w)) (own_ended x w) last))
                (off last, gone_shape (own_ended x w) (own_ended_shape w is.shape x) x.node x.end, early_end)
            by_last false last =
                subst (λ (n : World). IsFloodSoFar f clocks (map (heard_at x) vs) [] n × IsShape n × (n.medium.now < CLOSING))
                (sym (cond-false (is_last x.node w.members) (gone x.node x.end (own_ended x w)) (own_ended x w) last)) (
                  subst (λ (l : List ℕ). IsFloodSoFar f clocks (map (heard_at x) vs) l (own_ended x w))
                      (cond-false (is_last x.node w.members) (x.node ∷ []) [] last) own,
                  own_ended_shape w is.shape x,
                  early_end,
                )

        ended_so : IsFloodSoFar f clocks [] [] (heard_by_all clocks x vs (world_after_end x w))
        ended_so = heard_by_all_keeps f clocks has x [] vs (world_after_end x w) left_off.0 left_off.2 (ended_over f clocks [] [] w is.so x)

        heard_now : (us : List ℕ) (z : World) → IsShape z → z.medium.now < CLOSING
            → IsShape (heard_by_all clocks x us z) × ((heard_by_all clocks x us z).medium.now < CLOSING)
        heard_now [] z shape early = (shape, early)
        heard_now (v ∷ us) z shape early = heard_now us (world_after_reception (clocks v) x v z) (heard_shape z shape (clocks v) x v) early

        ended_running : IsRunning f clocks (heard_by_all clocks x vs (world_after_end x w))
        ended_running = (let on = heard_now vs (world_after_end x w) left_off.1 left_off.2 in record { so = ended_so; shape = on.0; early = on.1 })

        ended_smaller : remaining (heard_by_all clocks x vs (world_after_end x w)) < remaining w
        ended_smaller =
            (let less = ended_less x w m there (sym node) end_room in let at_most = all_heard_at_most clocks x vs (world_after_end x w) in omega arith)

      ended_on : (others : ℕ → ℕ → ℕ) → ((v : ℕ) → clocks v ≡ others v) → (new : World) → EndedTo f.trace others x w new
          → IsRunning f clocks new × (remaining new < remaining w)
      ended_on others same new e =
          let is_new : heard_by_all clocks x e.hearers (world_after_end x w) ≡ new =
          heard_by_same clocks others same x e.hearers (world_after_end x w) ∙ sym e.is in (
            subst (IsRunning f clocks) is_new (ended_running e.hearers e.heard),
            subst (λ (n : World). remaining n < remaining w) is_new (ended_smaller e.hearers e.heard),
          )

    pub can_step : CanStep f.trace w m m.act
    can_step = by_act m.act refl
      where
        by_act : (a : Act) → m.act ≡ a → CanStep f.trace w m a
        by_act Listens is_act = tt
        by_act (Waits t packet) is_act = can_start t packet is_act
        by_act (Sends x) is_act = can_end x is_act
        by_act Off is_act = tt

    pub step_on : (others : ℕ → ℕ → ℕ) → ((v : ℕ) → clocks v ≡ others v) → (new : World) → WorldSteps f.trace others w new m m.act
        → IsRunning f clocks new × (remaining new < remaining w)
    step_on others same new = by_act m.act refl
      where
        by_act : (a : Act) → m.act ≡ a → WorldSteps f.trace others w new m a → IsRunning f clocks new × (remaining new < remaining w)
        by_act Listens is_act stepped = absurd (none_busy next.moment (sym (ap moment_of is_act) ∙ next.own))
        by_act (Waits t packet) is_act stepped = started_on t packet is_act new stepped
        by_act (Sends x) is_act stepped = ended_on x is_act others same new stepped
        by_act Off is_act stepped = absurd (none_busy next.moment (sym (ap moment_of is_act) ∙ next.own))

  -- nothing is left to do
  pub closing : (w : World) → IsRunning f clocks w → All (λ m. moment_of m.act ≡ None) w.members → IsClosing f clocks w
  closing w is none = record {
    so = is.so;
    medium = is.shape.medium;
    quiet = λ m there. subst (λ (n : Member). moment_of n.act ≡ None) there.2 (none there.0 m there.1);
    early = (let early = is.early in omega arith);
  }
