-- One initiator: at most one transmission begins the flood of a slot, and a schedule is begun by the host of its channel.
use Rattle.std.proofs.Common.{◌≡◌, ◌≢◌, ℕ, inl, inr, List, Some, AllPairs, Contains, get_or, sym, ◌∙◌, arith, true≢false}
use Rattle.std.proofs.lemmas.List.Elements.{Contains-get_or}
use Rattle.lwb_base.specs.Messages.{Schedule}
use Rattle.lwb_packets.specs.declared.kind.Kind.TheVariants as kinds
use Rattle.bus_rules.specs.Slots.{Message, ScheduleOf, DataOf, RequestOf}
use Rattle.lwb_member.specs.Said.{message_of}
use Rattle.scenario_text.specs.ScenarioParts.{ScenarioParts}
use Rattle.radio_model.specs.declared.sending.Sending.{Sending}
use Rattle.air_log.specs.declared.entry.Entry.{Entry}
use Rattle.air_log.specs.Entries.{sendings_of}
use Rattle.air_log.specs.Safe.{SameSlot, Begins, OneInitiator}
use Rattle.law_trails.specs.PacketKinds.{SaysOfKind, kind_of_message}
use Rattle.law_trails.proofs.SaidPackets.{kind_says, request_read}
use Rattle.law_safety.specs.Endings.{EndsInOrder}
use Rattle.law_safety.proofs.DistinctSendings.{sendings_differ}
use Rattle.law_safety.proofs.RunSendings.{begins_flood, of_flood}
use Rattle.law_safety.proofs.SentPlans.{began_by_host}
use Rattle.law_safety.proofs.SlotFloods.{one_beginning}

-- what holds of two elements that differ, holds of each pair of a list in which none is there twice
of_pairs : {X : Type 0} (R : X → X → Type 0) (xs : List X) → AllPairs (λ x y. x ≢ y) xs
    → ((x y : X) → Contains xs x → Contains xs y → x ≢ y → R x y) → AllPairs R xs
of_pairs R xs differ each i j d less within =
    each (get_or xs i d) (get_or xs j d) (Contains-get_or xs i d (omega (arith, less, within))) (Contains-get_or xs j d within) (differ i j d less within)

schedule_in : (q : List ℕ) (says : SaysOfKind kinds.Schedule q) → (y : Schedule) × (message_of q ≡ Some (ScheduleOf y))
schedule_in q says = of_message says.message says.says says.of_kind
  where
    of_message : (m : Message) → message_of q ≡ Some m → kind_of_message m ≡ kinds.Schedule → (y : Schedule) × (message_of q ≡ Some (ScheduleOf y))
    of_message (ScheduleOf y) is kind = (y, is)
    of_message (DataOf d) is kind = absurd cc
    of_message (RequestOf a) is kind = absurd cc

module _ (s : ScenarioParts) (clocks : ℕ → ℕ → ℕ) (air : List Entry) (whole : EndsInOrder s clocks air) where
  not_two : (x y : Sending) → Contains (sendings_of air) x → Contains (sendings_of air) y → x ≢ y → SameSlot s.profile x y → Begins x → Begins y → ⊥
  not_two x y there also_there other same first second =
      elim (one_beginning s clocks air whole (of_flood s clocks air whole x there).zero (of_flood s clocks air whole y also_there).zero x y
      (begins_flood s clocks air whole x there first.first) (begins_flood s clocks air whole y also_there second.first) same) [
        | inl one ↦ other one
        | inr both ↦ true≢false (sym (request_read x.packet both.0.0 both.0.1).0 ∙ first.no_request)
      ]

  pub one_initiator : OneInitiator s air
  one_initiator = record {
    one = of_pairs (λ x y. SameSlot s.profile x y → Begins x → Begins y → ⊥) (sendings_of air) (sendings_differ s clocks air whole.run.heedful.trails) not_two;
    host = λ x there first schedule.
        let says = schedule_in x.packet (kind_says kinds.Schedule x.packet schedule) in
        began_by_host s clocks air whole x says.0 there first says.1;
  }
