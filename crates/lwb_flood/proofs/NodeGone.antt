-- A node goes off: the log with its tuning, and what the medium holds and asks for.
use Rattle.std.proofs.Common.{◌≡◌, ◌≢◌, ℕ, ◌-◌, ◌<◌, ◌≤◌, ◌⊎◌, List, [], ◌∷◌, ◌++◌, nat_lt, Option, Some, None, IfSome, option_to_list, sym, ◌∙◌, ap}
use Rattle.std.proofs.Common.{subst, get_or, lt-ltb}
use Rattle.std.specs.Prelude.{Contains}
use Rattle.std.proofs.lemmas.Bool.{cond_both, cond-true}
use Rattle.std.proofs.lemmas.List.Elements.{Contains-push, Contains-append_left}
use Rattle.scenario_text.specs.FloodParts.{FloodParts}
use Rattle.radio_model.specs.declared.sending.Sending.{Sending}
use Rattle.radio_model.specs.declared.station.Station.{Station}
use Rattle.radio_model.specs.declared.tuning.Tuned.{Tuned as TunedTo}
use Rattle.radio_model.specs.OnAir.{Hearing, Tuning}
use Rattle.radio_model.specs.Hearing.{Scene}
use Rattle.radio_model.specs.Stations.{IsMedium, station_of}
use Rattle.radio_model.specs.Holding.{Holds, ended_tuning, tuned_of, after_tuning}
use Rattle.radio_model.proofs.AfterTuning.{holds_after_tuning}
use Rattle.air_log.specs.Entries.{sendings_of, tunings_of, HasHeardEntry}
use Rattle.air_log.specs.NodeEvents.{own_ends}
use Rattle.air_log.specs.FloodLaw.{OPENING, CLOSING}
use Rattle.lwb_base.proofs.Elements.{Distinct}
use Rattle.lwb_flood.specs.declared.member.Act.{Act}
use Rattle.lwb_flood.specs.declared.member.Act.TheVariants.{Listens, Sends, Off}
use Rattle.lwb_flood.specs.declared.member.Member.{Member}
use Rattle.lwb_flood.specs.FloodLog.{HasClocks}
use Rattle.lwb_flood.specs.FloodWorlds.{World, node_of_member, moment_of, member_with_act, gone, after_own, own_ended, is_last, world_after_end}
use Rattle.lwb_flood.proofs.LogEntries.{ids_distinct}
use Rattle.lwb_flood.proofs.FloodSoFar.{scene, events_in, tuned_by, IsSending, Stands, IsMember, Runs, IsFloodSoFar}
use Rattle.lwb_flood.proofs.WorldLists.{one_of_mark, each_changed, same_there, sendings_tuned, hearings_tuned, tunings_tuned}

-- what runs has run before
pub gone_runs_back : (v t : ℕ) (w : World) (y : Sending) → Runs (gone v t w) y → Runs w y
gone_runs_back v t w y r =
    each_changed v (member_with_act Off) w.members (λ (n : Member). n.act ≡ Sends y → Runs w y)
    (λ n in_it at sends. absurd (off_not sends))
    (λ n in_it other sends. record { member = n; there = in_it; act = sends })
    r.member r.there r.act
  where
    off_not : Off ≡ Sends y → ⊥
    off_not same = cc

-- what its node has ended does not run
module _ (f : FloodParts) (clocks : ℕ → ℕ → ℕ) (todo : List Hearing) (leaving : List ℕ) (w : World) (so : IsFloodSoFar f clocks todo leaving w)
    (x : Sending) where
  pub own_ended_over : Runs (own_ended x w) x → ⊥
  own_ended_over r =
      each_changed x.node after_own w.members (λ (n : Member). n.act ≡ Sends x → ⊥)
      (λ n in_it at sends. listens_not sends)
      (λ n in_it other sends. other (sym (ap (λ (y : Sending). y.node) (sending n in_it sends).own)))
      r.member r.there r.act
    where
      listens_not : Listens ≡ Sends x → ⊥
      listens_not same = cc

      sending : (n : Member) (in_it : Contains w.members n) → n.act ≡ Sends x → IsSending w n x
      sending n in_it sends = subst (λ (a : Act). Stands f clocks w leaving (so.each n in_it).past n a) sends (so.each n in_it).stands

  pub ended_over : Runs (world_after_end x w) x → ⊥
  ended_over = cond_both (is_last x.node w.members) (gone x.node x.end (own_ended x w)) (own_ended x w) (λ (z : World). Runs z x → ⊥)
      (λ last r. own_ended_over (gone_runs_back x.node x.end (own_ended x w) x r))
      (λ more. own_ended_over)

module _ (f : FloodParts) (clocks : ℕ → ℕ → ℕ) (is : HasClocks f clocks) (todo : List Hearing) (leaving : List ℕ) (w : World)
    (medium : IsMedium w.medium) (so : IsFloodSoFar f clocks todo leaving w)
    (m : Member) (only : (u : ℕ) → Contains leaving u → u ≡ m.node) (there : Contains w.members m) (act : m.act ≡ Listens)
    (t : ℕ) (later : w.medium.now ≤ t) (opened : OPENING < t)
    (none_before : (n : Member) → Contains w.members n → IfSome (moment_of n.act) (λ l. t ≤ l.0)) (due : (h : Hearing) → Contains todo h → t ≡ w.medium.now)
    (end_is : get_or (own_ends (events_in w.air m.node)) (f.sends - 1) CLOSING ≡ t) (why : (m.flood.sent ≡ m.flood.limit) ⊎ (CLOSING ≤ t)) where
  abbrev next : World
  next = gone m.node t w

  abbrev span_until : ℕ → Tuning
  span_until end = record { rank = 0; node = m.node; start = OPENING; end = end }

  abbrev span : Tuning
  span = span_until t

  pub old : IsMember f clocks leaving w m
  old = so.each m there

  -- no two nodes are one
  pub one : (n : Member) → Contains w.members n → n.node ≡ m.node → n ≡ m
  one n in_it same = one_of_mark node_of_member w.members
      (subst (λ (l : List ℕ). Distinct l) (sym so.nodes) (ids_distinct f.nodes is.sound.ascending)) n m in_it there same

  -- a node that is about something else is another
  other_than : (n : Member) → Contains w.members n → (n.act ≡ Listens → ⊥) → n.node ≢ m.node
  other_than n in_it not same = not (ap (λ (k : Member). k.act) (one n in_it same) ∙ act)

  pub still_there : (n : Member) → Contains w.members n → (n.act ≡ Listens → ⊥) → Contains next.members n
  still_there n in_it not = same_there m.node (member_with_act Off) w.members n in_it (other_than n in_it not)

  -- the log with the entry
  same_sendings : sendings_of next.air ≡ sendings_of w.air
  same_sendings = sendings_tuned w.air m.node t

  pub sent_on : (y : Sending) → Contains (sendings_of w.air) y → Contains (sendings_of next.air) y
  sent_on y known = subst (λ (l : List Sending). Contains l y) (sym same_sendings) known

  pub sent_back : (y : Sending) → Contains (sendings_of next.air) y → Contains (sendings_of w.air) y
  sent_back y known = subst (λ (l : List Sending). Contains l y) same_sendings known

  pub heard_on : (u : ℕ) (y : Sending) → HasHeardEntry w.air u y → HasHeardEntry next.air u y
  heard_on u y known = subst (λ (l : List Hearing). Contains l (record { node = u; sending = y })) (sym (hearings_tuned w.air m.node t)) known

  pub heard_back : (u : ℕ) (y : Sending) → HasHeardEntry next.air u y → HasHeardEntry w.air u y
  heard_back u y known = subst (λ (l : List Hearing). Contains l (record { node = u; sending = y })) (hearings_tuned w.air m.node t) known

  pub tuned_on : (k : Tuning) → Contains (tunings_of w.air) k → Contains (tunings_of next.air) k
  tuned_on k known = subst (λ (l : List Tuning). Contains l k) (sym (tunings_tuned w.air m.node t))
      (Contains-append_left (tunings_of w.air) (span ∷ []) k known)

  pub tuned_new : Contains (tunings_of next.air) span
  tuned_new = subst (λ (l : List Tuning). Contains l span) (sym (tunings_tuned w.air m.node t)) (Contains-push (tunings_of w.air) span)

  -- the medium holds the new scene
  closes : ended_tuning m.node None t (tuned_of (station_of w.medium m.node)) ≡ Some span
  closes =
      ap (λ (o : Option Station). ended_tuning m.node None t (tuned_of o)) old.found
      ∙ ap (λ (o : Option TunedTo). ended_tuning m.node None t o) (old.tuned ∙ ap tuned_by act)
      ∙ cond-true (nat_lt OPENING t) (Some span) None (lt-ltb OPENING t opened)

  pub next_scene : after_tuning w.medium m.node None t (scene f w) ≡ scene f next
  next_scene =
      ap (λ (o : Option Tuning). record (scene f w) { tunings = tunings_of w.air ++ option_to_list o }) closes
      ∙ ap (λ (l : List Tuning). record (scene f w) { tunings = l }) (sym (tunings_tuned w.air m.node t))
      ∙ ap (λ (l : List Sending). record (scene f next) { sendings = l }) (sym same_sendings)

  pub still_holds : Holds next.medium (scene f next)
  still_holds = subst (λ (a : Scene). Holds next.medium a) next_scene (holds_after_tuning w.medium medium (scene f w) so.holds m.node None t later)
