-- The lines of the reports of `run` and `log`.
use Rattle.std.proofs.Common.{◌≡◌, ℕ, List, [], ◌∷◌, ◌++◌, true, false, map, flat_map, filter_map, codes, refl, sym, ◌∙◌, ap}
use Rattle.std.proofs.lemmas.List.{append_assoc, append-nil}
use Rattle.text_writers.specs.HexWords.{hex_word, payload_word}
use Rattle.text_writers.specs.Lines.{line_text, numbered}
use Rattle.scenario_text.specs.ScenarioParts.{ScenarioParts}
use Rattle.scenario_text.specs.declared.lines.NodeLine.{NodeLine}
use Rattle.bus_rules.specs.declared.delivery.Delivery.{Delivery}
use Rattle.bus_rules.specs.declared.delivery.DropLine.{DropLine}
use Rattle.bus_report.specs.ReportLines.{delivery_line, delivery_numbers, drop_line, report_lines}
use Rattle.radio_model.specs.declared.sending.Sending.{Sending}
use Rattle.air_log.specs.Energies.{energy_of}
use Rattle.air_log.specs.Entries.{sendings_of}
use Rattle.air_log.specs.LogText.{entry_is_before, entry_line, log_text, sent_line}
use Rattle.air_log.specs.declared.energy.Energy.{Energy}
use Rattle.air_log.specs.declared.entry.Entry.{Entry}
use Rattle.air_log.specs.declared.entry.Entry.TheVariants.{Sent, Heard, Tuned}
use Rattle.air_log.specs.declared.entry.HeardEntry.{HeardEntry}
use Rattle.air_log.specs.declared.entry.TunedEntry.{TunedEntry}
use Rattle.lwb_base.specs.Sorting.{in_order}
use Rattle.run_report.specs.RunReport.{energy_lines, log_report, run_report}
use Rattle.law_printed.specs.Printed.{lines_with}
use Rattle.law_printed.proofs.PlainBytes.{hex_plain, letters, numbered_plain, payload_plain}
use Rattle.law_printed.proofs.PrintedLines.{IsLine, all_kept, all_left, line_kept, line_left}

abbrev delivery_words : Delivery → List (List ℕ)
delivery_words d = numbered (codes "deliver") (delivery_numbers d) ++ payload_word d.payload ∷ []

abbrev drop_words : DropLine → List (List ℕ)
drop_words l = numbered (codes "drop") (l.frame ∷ l.node ∷ l.stream ∷ [])

abbrev energy_words : ℕ → Energy → List (List ℕ)
energy_words v e = numbered (codes "energy") (v ∷ e.sent ∷ e.windows ∷ e.scanned ∷ e.on ∷ [])

abbrev sent_words : Sending → List (List ℕ)
sent_words x = numbered (codes "sent") (x.rank ∷ x.node ∷ x.start ∷ x.end ∷ []) ++ hex_word x.packet ∷ []

abbrev heard_words : HeardEntry → List (List ℕ)
heard_words h = numbered (codes "heard") (h.rank ∷ h.node ∷ h.from ∷ h.start ∷ h.end ∷ []) ++ hex_word h.packet ∷ []

abbrev tuned_words : TunedEntry → List (List ℕ)
tuned_words t = numbered (codes "tuned") (t.rank ∷ t.node ∷ t.start ∷ t.end ∷ [])

-- of a run: the lines of its deliveries, and no line of its log
delivers : (d : Delivery) → IsLine (codes "deliver") true (delivery_words d)
delivers d = record {
  plain = numbered_plain (codes "deliver") (delivery_numbers d) (payload_word d.payload ∷ []) (letters (codes "deliver") refl) (payload_plain d.payload, tt);
  begin = refl;
}

drop_delivers : (l : DropLine) → IsLine (codes "deliver") false (drop_words l)
drop_delivers l = record {
  plain = numbered_plain (codes "drop") (l.frame ∷ l.node ∷ l.stream ∷ []) [] (letters (codes "drop") refl) tt;
  begin = refl;
}

energy_delivers : (v : ℕ) (e : Energy) → IsLine (codes "deliver") false (energy_words v e)
energy_delivers v e = record {
  plain = numbered_plain (codes "energy") (v ∷ e.sent ∷ e.windows ∷ e.scanned ∷ e.on ∷ []) [] (letters (codes "energy") refl) tt;
  begin = refl;
}

delivery_sends : (d : Delivery) → IsLine (codes "sent") false (delivery_words d)
delivery_sends d = record { plain = (delivers d).plain; begin = refl }

drop_sends : (l : DropLine) → IsLine (codes "sent") false (drop_words l)
drop_sends l = record { plain = (drop_delivers l).plain; begin = refl }

energy_sends : (v : ℕ) (e : Energy) → IsLine (codes "sent") false (energy_words v e)
energy_sends v e = record { plain = (energy_delivers v e).plain; begin = refl }

-- of a log
sends : (x : Sending) → IsLine (codes "sent") true (sent_words x)
sends x = record {
  plain =
      numbered_plain (codes "sent") (x.rank ∷ x.node ∷ x.start ∷ x.end ∷ []) (hex_word x.packet ∷ []) (letters (codes "sent") refl)
      (hex_plain x.packet, tt);
  begin = refl;
}

heard_sends : (h : HeardEntry) → IsLine (codes "sent") false (heard_words h)
heard_sends h = record {
  plain =
      numbered_plain (codes "heard") (h.rank ∷ h.node ∷ h.from ∷ h.start ∷ h.end ∷ []) (hex_word h.packet ∷ []) (letters (codes "heard") refl)
      (hex_plain h.packet, tt);
  begin = refl;
}

tuned_sends : (t : TunedEntry) → IsLine (codes "sent") false (tuned_words t)
tuned_sends t = record {
  plain = numbered_plain (codes "tuned") (t.rank ∷ t.node ∷ t.start ∷ t.end ∷ []) [] (letters (codes "tuned") refl) tt;
  begin = refl;
}

module _ (made : List Delivery) (lost : List DropLine) (s : ScenarioParts) (clocks : ℕ → ℕ → ℕ) (air : List Entry) where
  abbrev costs : List ℕ
  costs = energy_lines s clocks air

  abbrev node_words : NodeLine → List (List ℕ)
  node_words n = energy_words n.node (energy_of s clocks air n.node)

  pub run_delivers : lines_with (codes "deliver") (run_report made lost s clocks air) ≡ map delivery_line made
  run_delivers =
      ap (lines_with (codes "deliver")) (append_assoc (flat_map delivery_line made) (flat_map drop_line lost) costs)
      ∙ all_kept (codes "deliver") (flat_map drop_line lost ++ costs) delivery_words delivers made
      ∙ ap (λ (ls : List (List ℕ)). map delivery_line made ++ ls)
      (all_left (codes "deliver") costs drop_words drop_delivers lost
      ∙ ap (lines_with (codes "deliver")) (sym (append-nil costs))
      ∙ all_left (codes "deliver") [] node_words (λ n. energy_delivers n.node (energy_of s clocks air n.node)) s.nodes)
      ∙ append-nil (map delivery_line made)

  run_sends : (more : List ℕ) → lines_with (codes "sent") (run_report made lost s clocks air ++ more) ≡ lines_with (codes "sent") more
  run_sends more =
      ap (lines_with (codes "sent")) (append_assoc (report_lines made lost) costs more
      ∙ append_assoc (flat_map delivery_line made) (flat_map drop_line lost) (costs ++ more))
      ∙ all_left (codes "sent") (flat_map drop_line lost ++ (costs ++ more)) delivery_words delivery_sends made
      ∙ all_left (codes "sent") (costs ++ more) drop_words drop_sends lost
      ∙ all_left (codes "sent") more node_words (λ n. energy_sends n.node (energy_of s clocks air n.node)) s.nodes

entries_send : (es : List Entry) → lines_with (codes "sent") (flat_map entry_line es) ≡ map sent_line (sendings_of es)
entries_send [] = refl
entries_send (Sent x ∷ es) =
    line_kept (codes "sent") (flat_map entry_line es) (sent_words x) (sends x)
    ∙ ap (λ (ls : List (List ℕ)). sent_line x ∷ ls) (entries_send es)
entries_send (Heard h ∷ es) = line_left (codes "sent") (flat_map entry_line es) (heard_words h) (heard_sends h) ∙ entries_send es
entries_send (Tuned t ∷ es) = line_left (codes "sent") (flat_map entry_line es) (tuned_words t) (tuned_sends t) ∙ entries_send es

-- of a log after it: the lines of its transmissions
pub log_sends : (made : List Delivery) (lost : List DropLine) (s : ScenarioParts) (clocks : ℕ → ℕ → ℕ) (air : List Entry)
    → lines_with (codes "sent") (log_report made lost s clocks air) ≡ map sent_line (sendings_of (in_order entry_is_before air))
log_sends made lost s clocks air = run_sends made lost s clocks air (log_text air) ∙ entries_send (in_order entry_is_before air)
