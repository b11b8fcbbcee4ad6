-- Only a packet that names another host is a schedule of another rank.
use Rattle.std.proofs.Common.{◌≡◌, ℕ, List, Option, Some, None, true, false, not, if◌then◌else◌, refl, subst, ap}
use Rattle.std.proofs.lemmas.Bool.{cond_both, eq-eqb}
use Rattle.std.specs.Option.{IfSome, option_map}
use Rattle.lwb_base.specs.Messages.{Schedule}
use Rattle.schedule_codec.specs.Spelling.{spells}
use Rattle.schedule_codec.specs.Reading.{schedule_of}
use Rattle.schedule_codec.proofs.Readings.{spelled_by}
use Rattle.lwb_packets.specs.DataPackets.{is_data}
use Rattle.lwb_packets.specs.Requests.{is_request}
use Rattle.bus_rules.specs.Slots.{Message, ScheduleOf, DataOf, RequestOf}
use Rattle.lwb_member.specs.Said.{message_of, data_in, request_in}
use Rattle.node_core.specs.Rows.{is_foreign}

own_read : (rank : ℕ) (read : Option Schedule) → ((s : Schedule) → read ≡ Some s → s.plan.rank ≡ rank) → is_foreign rank (option_map ScheduleOf read) ≡ false
own_read rank None own = refl
own_read rank (Some s) own = ap not (eq-eqb s.plan.rank rank (own s refl))

pub own_host : (rank : ℕ) (p : List ℕ) (named : Option ℕ) → ((s : Schedule) → spells p s ≡ true → named ≡ Some s.plan.rank) → IfSome named (λ n. n ≡ rank)
    → is_foreign rank (message_of p) ≡ false
own_host rank p named spelled own =
    let read : Option Message = option_map ScheduleOf (schedule_of p) in
    let own_schedule : is_foreign rank read ≡ false =
    own_read rank (schedule_of p) (λ s is. subst (λ (o : Option ℕ). IfSome o (λ n. n ≡ rank)) (spelled s (spelled_by p s is)) own) in
    cond_both (is_data p) (Some (DataOf (data_in p))) (if is_request p then Some (RequestOf (request_in p)) else read)
    (λ (m : Option Message). is_foreign rank m ≡ false)
    (λ carried. refl)
    (λ other. cond_both (is_request p) (Some (RequestOf (request_in p))) read (λ (m : Option Message). is_foreign rank m ≡ false) (λ asked. refl)
    (λ rest. own_schedule))
