-- What is read of a log on the way to its stamps.
use Rattle.std.specs.Prelude.{◌≡◌, ℕ, ◌+◌, List, Bool, ◌==◌, if◌then◌else◌, length, slice_index, Some, None, filter_map}
use Rattle.std.specs.declared.option.Option.{Option}
use Rattle.std.specs.Ordering.{nat_cmp, ordering_then, is_lt}
use Rattle.lwb_base.specs.Profile.{Numbers}
use Rattle.lwb_base.specs.Messages.{Schedule}
use Rattle.schedule_codec.specs.Reading.{schedule_of}
use Rattle.lwb_member.specs.Said.{data_in}
use Rattle.radio_model.specs.declared.sending.Sending.{Sending}
use Rattle.radio_model.specs.Hearing.{frame_of_sending, slot_of_sending}
use Rattle.radio_model.specs.OnAir.{Hearing}
use Rattle.air_log.specs.declared.entry.Entry.{Entry}
use Rattle.air_log.specs.Entries.{hearing_in, sending_in}
use Rattle.bus_time.specs.Stamps.{begins_data}
use Rattle.bus_time.specs.Words.{Note, AreFirsts}
use Rattle.bus_time.specs.declared.words.Round.{Round}
use Rattle.bus_time.specs.declared.words.Word.{Word}
use Rattle.bus_time.specs.declared.words.Words.{Words}
use Rattle.bus_time.specs.declared.beginning.Beginning.{Beginning}

-- the round of the hearer of g that is this many frames ahead
abbrev pub round_ahead : Numbers → ℕ → Hearing → Round
round_ahead p ahead g = record { node = g.node; rank = g.sending.rank; frame = frame_of_sending p g.sending + ahead }

abbrev pub word_of : ℕ → Hearing → Word
word_of ahead g = record {
  ahead = ahead;
  end = g.sending.end;
  slot = slice_index g.sending.packet 1;
  counter = slice_index g.sending.packet 2;
  length = length g.sending.packet;
}

abbrev pub note_of : Numbers → ℕ → Hearing → Note
note_of p ahead g = (round_ahead p ahead g, word_of ahead g)

-- of a schedule that is received: the word on the frame itself, and on the frame to which its gap leads
abbrev pub note_now : Numbers → Hearing → Option Schedule → Option Note
note_now p g None = None
note_now p g (Some y) = Some (note_of p 0 g)

abbrev pub note_ahead : Numbers → Hearing → Option Schedule → Option Note
note_ahead p g None = None
note_ahead p g (Some y) = if y.gap == 0 then None else Some (note_of p y.gap g)

abbrev pub now_by : Numbers → Option Hearing → Option Note
now_by p None = None
now_by p (Some g) = note_now p g (schedule_of g.sending.packet)

abbrev pub ahead_by : Numbers → Option Hearing → Option Note
ahead_by p None = None
ahead_by p (Some g) = note_ahead p g (schedule_of g.sending.packet)

abbrev pub now_in : Numbers → Entry → Option Note
now_in p e = now_by p (hearing_in e)

abbrev pub ahead_in : Numbers → Entry → Option Note
ahead_in p e = ahead_by p (hearing_in e)

-- what is kept of a transmission that is stamped
abbrev pub beginning_of : Numbers → Sending → Beginning
beginning_of p x = record {
  frame = frame_of_sending p x;
  rank = x.rank;
  slot = slot_of_sending x;
  node = x.node;
  stream = (data_in x.packet).stream;
  seq = (data_in x.packet).seq;
  start = x.start;
}

abbrev pub beginning_by : Numbers → Option Sending → Option Beginning
beginning_by p None = None
beginning_by p (Some x) = if begins_data x then Some (beginning_of p x) else None

abbrev pub beginning_in : Numbers → Entry → Option Beginning
beginning_in p e = beginning_by p (sending_in e)

pub record IsRead (p : Numbers) (air : List Entry) (now ahead : Words) (beginnings : List Beginning) : Type 0 where
  pub now_is : AreFirsts (filter_map (now_in p) air) now
  pub ahead_is : AreFirsts (filter_map (ahead_in p) air) ahead
  pub beginnings_are : beginnings ≡ filter_map (beginning_in p) air

-- by frame, rank and slot
abbrev pub starts_first : Beginning → Beginning → Bool
starts_first a b = is_lt (ordering_then (ordering_then (nat_cmp a.frame b.frame) (nat_cmp a.rank b.rank)) (nat_cmp a.slot b.slot))
