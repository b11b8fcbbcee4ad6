-- Which text is due, and that no status but its own can come.
use Rattle.std.proofs.Common.{◌≡◌, ◌≤◌, ◌↔◌, ◌⊎◌, inl, ℕ, List, Bool, true, false, length, Option, Some, None, String, refl, sym, ◌∙◌, ap, subst, arith}
use Rattle.std.specs.declared.alloc.Global.{Global}
use Rattle.lwb_base.specs.declared.read.TheConstants.{INPUT_LIMIT}
use Rattle.text_readers.specs.declared.fault.FaultKind.{FaultKind}
use Rattle.command_line.specs.Streams.{IsInput, IsRead}
use Rattle.command_line.specs.TextsDue.{AskToRead, IsFaultLine, IsStatusDue}
use Rattle.command_line.proofs.WholeInputs.{read_is_input}

-- what has no fault has none
pub text_or_fault : (fault : Option (ℕ × FaultKind)) (n : ℕ) (k : FaultKind) → fault ≡ None → fault ≡ Some (n, k) → ⊥
text_or_fault fault n k none some = none_or_some (n, k) (sym none ∙ some)
  where
    none_or_some : (f : ℕ × FaultKind) → ◌≡◌ {A = Option (ℕ × FaultKind)} None (Some f) → ⊥
    none_or_some f is = cc

-- words ask for one command
pub one_command : {C : Type 0} (Asks : List (String Global) → C → Type 0) (words : List (String Global)) (found : Option C) (c d : C)
    → ((e : C) → (found ≡ Some e) ↔ Asks words e) → found ≡ Some c → Asks words d → c ≡ d
one_command Asks words found c d which is asked = some_same c d (sym is ∙ (which d).1 asked)
  where
    some_same : {A : Type 0} (x y : A) → Some x ≡ Some y → x ≡ y
    some_same x y same = cc

-- where no words ask for a command that reads, this one does not
pub not_reading : {C : Type 0} (Asks : List (String Global) → C → Type 0) (reads : C → Bool) (words : List (String Global)) (c : C) → Asks words c
    → (AskToRead Asks reads words → ⊥) → reads c ≡ false
not_reading Asks reads words c asks none = by_test (reads c) refl
  where
    by_test : (b : Bool) → reads c ≡ b → reads c ≡ false
    by_test true is = absurd (none (c, asks, is))
    by_test false is = is

module _ {C : Type 0} (reads : C → Bool) (fault_of : C → List ℕ → Option (ℕ × FaultKind)) (c d : C) (old new : Option (List ℕ)) (r : List ℕ) (status : ℕ)
    (one : c ≡ d) (read : IsRead (reads c) old new r) (b : List ℕ) (at : IsInput (reads d) old b) where
  -- what was read is the input of the command that the words ask for, with its faults
  input_of : (r ≡ b) × (length b ≤ INPUT_LIMIT)
  input_of = read_is_input (reads c) old new r b read (subst (λ (e : C). IsInput (reads e) old b) (sym one) at)

  fault_read : fault_of d b ≡ fault_of c r
  fault_read = ap (λ (e : C). fault_of e b) (sym one) ∙ ap (fault_of c) (sym input_of.0)

  -- the status is 0, or the memory ran out, where the bytes read are a text
  pub complete_report : fault_of c r ≡ None → (status ≡ 0) ⊎ (status ≡ 5) → IsStatusDue (fault_of d b) b status
  complete_report text due = record {
    accepted = λ other short. due;
    refused = λ n k other short. absurd (text_or_fault (fault_of d b) n k (fault_read ∙ text) other);
    too_long = λ long. absurd (omega (arith, long, input_of.1));
  }

  -- the status is 1 where they have a fault
  pub complete_fault : {text : List ℕ} → IsFaultLine (fault_of c r) text → status ≡ 1 → IsStatusDue (fault_of d b) b status
  complete_fault fault is_1 = record {
    accepted = λ other short. absurd (text_or_fault (fault_of c r) fault.line fault.kind (sym fault_read ∙ other) fault.said);
    refused = λ n k other short. inl is_1;
    too_long = λ long. inl is_1;
  }
