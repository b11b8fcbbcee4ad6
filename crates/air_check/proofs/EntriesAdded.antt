-- A line of a log adds its entry, if all ids in it are those of nodes.
use Rattle.std.proofs.Common.{◌≡◌, ◌∙◌, ap, sym, refl, ℕ, List, [], ◌∷◌, ◌++◌, Bool, true, false, if◌then◌else◌}
use Rattle.std.specs.Prelude.{Ok, Err, Result}
use Rattle.std.specs.Option.{ok_or}
use Rattle.scenario_text.specs.declared.lines.NodeLine.{NodeLine}
use Rattle.scenario_text.specs.Payloads.{hex_bytes}
use Rattle.text_readers.specs.Faults.{spelled, ◌>>=◌}
use Rattle.text_readers.specs.Words.{line_of_words, number_at}
use Rattle.text_readers.specs.declared.fault.FaultKind.{FaultKind}
use Rattle.text_readers.specs.declared.fault.FaultKind.TheVariants.{Range, UnknownNode}
use Rattle.air_log.specs.declared.entry.Entry.{Entry}
use Rattle.air_check.specs.LogGrammar.{log_line, log_numbers, entry_of_line, entry_of_words, ids_are_known, entries_after_words}
use Rattle.air_check.specs.LogGrammar.{is_hex, packet_of_bytes, front, last_word, sent_log_line, heard_log_line}
use Rattle.air_check.specs.LogGrammar.{Sent, Heard}

added_if : List NodeLine → List Entry → Entry → Result (List Entry) FaultKind
added_if ns air e = if ids_are_known ns e then Ok (air ++ e ∷ []) else Err UnknownNode

-- one step after another, and then a third
in_turn : {A B C : Type 0} (m : Result A FaultKind) (f : A → Result B FaultKind) (g : B → Result C FaultKind) → ((m >>= f) >>= g) ≡ (m >>= (λ x. f x >>= g))
in_turn (Ok x) f g = refl
in_turn (Err k) f g = refl

-- the entry is read, and then added
after_entry : (ns : List NodeLine) (air : List Entry) (ws : List (List ℕ))
    → entries_after_words ns air ws ≡ (entry_of_words ws (log_line ws) >>= added_if ns air)
unfolding entries_after_words added_if
after_entry ns air ws = sym (in_turn (spelled (log_line ws) (λ l. log_numbers l ws)) (λ l. ok_or (entry_of_line l) Range) (added_if ns air))

pub rejected : (ns : List NodeLine) (air : List Entry) (ws : List (List ℕ)) (k : FaultKind) → entry_of_words ws (log_line ws) ≡ Err k
    → entries_after_words ns air ws ≡ Err k
rejected ns air ws k is = after_entry ns air ws ∙ ap (λ (m : Result Entry FaultKind). m >>= added_if ns air) is

pub unknown : (ns : List NodeLine) (air : List Entry) (ws : List (List ℕ)) (e : Entry) → entry_of_words ws (log_line ws) ≡ Ok e
    → ids_are_known ns e ≡ false → entries_after_words ns air ws ≡ Err UnknownNode
unfolding added_if
unknown ns air ws e is strange =
    after_entry ns air ws ∙ ap (λ (m : Result Entry FaultKind). m >>= added_if ns air) is
    ∙ ap (λ (known : Bool). if known then Ok (air ++ e ∷ []) else Err UnknownNode) strange

pub added : (ns : List NodeLine) (air : List Entry) (ws : List (List ℕ)) (e : Entry) → entry_of_words ws (log_line ws) ≡ Ok e
    → ids_are_known ns e ≡ true → entries_after_words ns air ws ≡ Ok (air ++ e ∷ [])
unfolding added_if
added ns air ws e is known =
    after_entry ns air ws ∙ ap (λ (m : Result Entry FaultKind). m >>= added_if ns air) is
    ∙ ap (λ (known : Bool). if known then Ok (air ++ e ∷ []) else Err UnknownNode) known

-- what a line says whose packet is spelled right
pub sent_words : (ws : List (List ℕ)) → is_hex (last_word ws) ≡ true
    → sent_log_line ws ≡ line_of_words 5 (front ws)
    (Sent (number_at (front ws) 1) (number_at (front ws) 2) (number_at (front ws) 3) (number_at (front ws) 4) (packet_of_bytes (hex_bytes (last_word ws))))
unfolding sent_log_line
sent_words ws hex = rw hex refl

pub heard_words : (ws : List (List ℕ)) → is_hex (last_word ws) ≡ true
    → heard_log_line ws ≡ line_of_words 6 (front ws)
    (Heard (number_at (front ws) 1) (number_at (front ws) 2) (number_at (front ws) 3) (number_at (front ws) 4) (number_at (front ws) 5)
    (packet_of_bytes (hex_bytes (last_word ws))))
unfolding heard_log_line
heard_words ws hex = rw hex refl
