-- The lines of what became of each packet that the script puts.
use Rattle.std.specs.Prelude.{ℕ, List, [], ◌∷◌, ◌++◌, Some, None, codes, decimal, flat_map, if◌then◌else◌, map}
use Rattle.std.specs.declared.option.Option.{Option}
use Rattle.text_writers.specs.Lines.{line_text, numbered}
use Rattle.scenario_text.specs.ScenarioParts.{ScenarioParts}
use Rattle.bus_terms.specs.Fates.{bus_fates}
use Rattle.bus_terms.specs.declared.packets.Fate.{Fate}
use Rattle.bus_terms.specs.declared.packets.Fate.TheVariants.{Dropped, Waiting, Cleared, Sent}
use Rattle.bus_terms.specs.declared.packets.PacketId.{PacketId}
use Rattle.bus_terms.specs.declared.packets.PutFate.{PutFate}
use Rattle.bus_terms.specs.declared.packets.PutLine.{PutLine}

abbrev pub put_words : PutLine → List (List ℕ)
put_words p = numbered (codes "put") (p.frame ∷ p.node ∷ p.stream ∷ [])

-- the boot and the number of the packet that was queued
abbrev pub packet_words : Option PacketId → List (List ℕ)
packet_words None = []
packet_words (Some x) = map decimal (x.boot ∷ x.seq ∷ [])

abbrev pub fate_words : Fate → List (List ℕ)
fate_words Dropped = numbered (codes "dropped") []
fate_words Waiting = numbered (codes "waiting") []
fate_words (Cleared f) = numbered (codes "cleared") (f ∷ [])
fate_words (Sent f rank slot receivers at_host) = numbered (codes "sent") (f ∷ rank ∷ slot ∷ receivers ∷ (if at_host then 1 else 0) ∷ [])

abbrev pub fate_line : PutFate → List ℕ
fate_line x = line_text (put_words x.put ++ packet_words x.put.packet ++ fate_words x.fate)

-- a line for each put line, in the order of the script
abbrev pub fates_text : ScenarioParts → List ℕ
fates_text s = flat_map fate_line (bus_fates s)

-- Internal: a word after the first one
abbrev pub after_space : List ℕ → List ℕ
after_space word = 32 ∷ word
