-- With a reception more what was sent, heard and tuned is right, and so are the nodes that do not receive.
use Rattle.std.proofs.Common.{◌≡◌, ◌≢◌, ℕ, ◌^◌, ◌≤◌, ◌⊎◌, List, ◌∷◌, true, inl, inr, refl, sym, ◌∙◌, ap, subst, arith}
use Rattle.std.specs.Prelude.{Contains, AllPairs}
use Rattle.scenario_text.specs.FloodParts.{FloodParts, knows}
use Rattle.radio_model.specs.declared.sending.Sending.{Sending}
use Rattle.radio_model.specs.OnAir.{Hearing, Tuning}
use Rattle.radio_model.specs.Hearing.{Scene, HearsInScene}
use Rattle.radio_model.specs.Holding.{as_it_stands}
use Rattle.lwb_base.proofs.Elements.{in_filter, contains_head, contains_tail, contains_cases}
use Rattle.air_log.specs.Entries.{hearing_in, sendings_of, tunings_of, HasHeardEntry, heard_entry}
use Rattle.air_log.specs.NodeEvents.{Event, EventOccasion, event_occasions, own_ends}
use Rattle.air_log.specs.FloodLaw.{START, first_packet, first_flood, tuning_by, sending_at}
use Rattle.lwb_flood.specs.declared.member.Act.{Act}
use Rattle.lwb_flood.specs.declared.member.Act.TheVariants.{Listens, Waits, Sends, Off}
use Rattle.lwb_flood.specs.declared.member.Member.{Member}
use Rattle.lwb_flood.specs.FloodWorlds.{World, world_after_reception}
use Rattle.lwb_flood.proofs.FloodSoFar.{standing, events_in, Stands, IsMember, IsSettled, IsSent, WasHeard, IsDue, WasTuned}
use Rattle.lwb_flood.proofs.FloodSoFar.{WaitsToBegin}
use Rattle.lwb_flood.proofs.WorldLists.{events_heard_other, pairs_push}
use Rattle.lwb_flood.proofs.FloodReplies.{heard_runs_back}
use Rattle.lwb_flood.proofs.SendingCauses.{cause_more}
use Rattle.lwb_flood.proofs.HearingLogged.{Receives, heard_on, heard_new, occasions_on, ends_same, runs_on, just, by_rule, same_tunings, same_scene}
use Rattle.lwb_flood.proofs.HearingLogged.{sent_on, sent_back, heard_cases, tuning_same, kept_there, busy}

module _ {f : FloodParts} {clocks : ℕ → ℕ → ℕ} {v : ℕ} {x : Sending} {todo : List Hearing} {leaving : List ℕ} {w : World}
    (g : Receives f clocks v x todo leaving w) where
  abbrev hearing : Hearing
  hearing = record { node = v; sending = x }

  abbrev next : World
  next = world_after_reception (clocks v) x v w

  -- what was sent and received
  settled_on : (y : Sending) → IsSettled f (hearing ∷ todo) w y → IsSettled f todo next y
  settled_on y s = record {
    ended = s.ended;
    over = λ r. s.over (heard_runs_back (clocks v) x v w y r);
    heard = λ u. (there u, back u);
  }
    where
      there : (u : ℕ) → (HasHeardEntry next.air u y ⊎ Contains todo (record { node = u; sending = y }))
          → (knows f.nodes u ≡ true) × HearsInScene (standing f next) u y
      there u is =
          let rule = (s.heard u).0 (elim is [
            | inl known ↦ elim (heard_cases g u y known) [
              | inl old ↦ inl old
              | inr new ↦ inr (subst (λ (h : Hearing). Contains (hearing ∷ todo) h) new (contains_head hearing todo))
            ]
            | inr coming ↦ inr (contains_tail hearing todo (record { node = u; sending = y }) coming)
          ]) in (rule.0, subst (λ (a : Scene). HearsInScene (as_it_stands w.medium w.medium.now a) u y) (sym (same_scene g)) rule.1)

      back : (u : ℕ) → (knows f.nodes u ≡ true) × HearsInScene (standing f next) u y
          → HasHeardEntry next.air u y ⊎ Contains todo (record { node = u; sending = y })
      back u rule =
          elim ((s.heard u).1 (rule.0, subst (λ (a : Scene). HearsInScene (as_it_stands w.medium w.medium.now a) u y) (same_scene g) rule.1)) [
            | inl old ↦ inl (heard_on g u y old)
            | inr coming ↦ elim (contains_cases hearing todo (record { node = u; sending = y }) coming) [
              | inl now ↦ inl (subst (λ (h : Hearing). HasHeardEntry next.air h.node h.sending) now (heard_new g))
              | inr later ↦ inr later
            ]
          ]

  pub each_sent : (y : Sending) → Contains (sendings_of next.air) y → IsSent f clocks todo next y
  each_sent y there =
      let s = g.so.sent y (sent_back g y there) in
      record {
        known = s.known;
        lasts = s.lasts;
        begun = s.begun;
        step = s.step;
        cause = cause_more f (clocks y.node) y.node (events_in w.air y.node) (events_in next.air y.node) y.start y.packet
            (λ o. occasions_on g y.node (first_flood f y.node) o) s.cause;
        fate = elim s.fate [ inl runs ↦ inl (runs_on g y runs) | inr done ↦ inr (settled_on y done) ];
      }

  pub each_heard : (u : ℕ) (y : Sending) → HasHeardEntry next.air u y → WasHeard f next u y
  each_heard u y there =
      elim (heard_cases g u y there) [
        | inl old ↦
            let h = g.so.heard u y old in
            record { known = h.known; sent = sent_on g y h.sent; over = λ r. h.over (heard_runs_back (clocks v) x v w y r) }
        | inr new ↦ subst (λ (h : Hearing). WasHeard f next h.node h.sending) new (record {
          known = (by_rule g).0;
          sent = sent_on g x (just g).sent;
          over = λ r. g.over (heard_runs_back (clocks v) x v w x r);
        })
      ]

  pub each_due : (h : Hearing) → Contains todo h → IsDue next h
  each_due h there =
      let d = g.so.due_now h (contains_tail hearing todo h there) in
      record {
        sent = sent_on g h.sending d.sent;
        now = d.now;
        begun = λ y sent. d.begun y (sent_back g y sent);
        new = λ known. elim (heard_cases g h.node h.sending known) [
          | inl old ↦ d.new old
          | inr same ↦ g.so.due_once.0 (subst (λ (g : Hearing). Contains todo g) (sym same) there)
        ];
      }

  pub each_tuning : (t : Tuning) → Contains (tunings_of next.air) t → WasTuned f next t
  each_tuning t there =
      let d = g.so.tunings t (subst (λ (l : List Tuning). Contains l t) (same_tunings g) there) in
      record {
        member = d.member;
        there = kept_there g d.member d.there (busy g d.member d.there (λ act. off_not (sym d.off ∙ act)));
        node = d.node;
        off = d.off;
        is = d.is ∙ tuning_same g t.node (events_in w.air t.node) (events_in next.air t.node) (ends_same g t.node);
      }
    where
      off_not : Off ≡ Listens → ⊥
      off_not same = cc

  pub begins_on : Contains (sendings_of next.air) (sending_at f.start START (first_packet f.start)) ⊎ WaitsToBegin f next
  begins_on = elim g.so.begins [
    | inl sent ↦ inl (sent_on g (sending_at f.start START (first_packet f.start)) sent)
    | inr b ↦ inr (record {
      member = b.member;
      there = kept_there g b.member b.there (busy g b.member b.there (λ act. waits_not (sym b.act ∙ act)));
      node = b.node;
      act = b.act;
    })
  ]
    where
      waits_not : Waits START (first_packet f.start) ≡ Listens → ⊥
      waits_not same = cc

  pub once_more : AllPairs (λ d e. d ≢ e) next.air
  once_more = pairs_push (λ d e. d ≢ e) w.air (heard_entry v x) g.so.once
      (λ e there same. (just g).new (in_filter hearing_in w.air e hearing there (ap hearing_in same)))

  -- what is asked for
  pub heard_in_range : x.end ≤ 2 ^ 45
  heard_in_range = let now : x.end ≡ w.medium.now = (just g).now in omega arith

  -- how each node is
  module _ (m : Member) (past more : List Event)
      (kept : (o : EventOccasion) → Contains (event_occasions (first_flood f m.node) past) o → Contains (event_occasions (first_flood f m.node) more) o)
      (ends : own_ends more ≡ own_ends past) where
    pub stands_on : (a : Act) → Stands f clocks w leaving past m a → Stands f clocks next leaving more m a
    stands_on Listens s = s
    stands_on (Waits t p) s = record {
      waits = s.waits;
      left = s.left;
      later = s.later;
      step = s.step;
      cause = cause_more f (clocks m.node) m.node past more t p kept s.cause;
    }
    stands_on (Sends y) s = record {
      waits = s.waits;
      left = s.left;
      own = s.own;
      sent = sent_on g y s.sent;
      later = s.later;
      begun = λ z sent. s.begun z (sent_back g z sent);
    }
    stands_on Off s = record {
      waits = s.waits;
      over = s.over;
      tuned = subst (λ (l : List Tuning). Contains l (tuning_by f.sends m.node more)) (sym (same_tunings g))
          (subst (λ (t : Tuning). Contains (tunings_of w.air) t) (tuning_same g m.node past more ends) s.tuned);
    }

  pub elsewhere : (m : Member) → Contains w.members m → m.node ≢ v → IsMember f clocks leaving next m
  elsewhere m there other =
      let old = g.so.each m there in
      record {
        known = old.known;
        station = old.station;
        found = old.found;
        tuned = old.tuned;
        sends = old.sends;
        past = old.past;
        happened = events_heard_other w.air v x m.node (λ at. other (sym at)) ∙ old.happened;
        in_order = old.in_order;
        over = old.over;
        flood = old.flood;
        stands = stands_on m old.past old.past (λ o kept. kept) refl m.act old.stands;
        answered = λ h s p occasion answer. elim (old.answered h s p occasion answer) [ inl sent ↦ inl (sent_on g _ sent) | inr waits ↦ inr waits ];
      }
