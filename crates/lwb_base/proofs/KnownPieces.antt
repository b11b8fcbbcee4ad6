-- What one piece more does to known bytes.
use Rattle.std.proofs.Common.{◌≡◌, ℕ, ◌+◌, ◌-◌, ◌<◌, ◌≤◌, min, List, [], ◌++◌, length, take, drop, Err, Option, sym, ◌∙◌, ap}
use Rattle.std.proofs.Common.{subst, arith, length-drop, length-take-le, length-append, take-append-drop}
use Rattle.std.proofs.lemmas.List.{take_at, take_all, nil_from_length}
use Rattle.std.proofs.Math.Seq.{take-add, drop-drop}
use Rattle.std.proofs.KnownBytes.{Appends-trans, Consumes-trans}
use Rattle.std.specs.Io.KnownBytes.{Appends, Consumes}
use Rattle.lwb_base.specs.Reading.{ReadsPiece, ReadsAll}
use Rattle.lwb_base.specs.declared.read.ReadStop.{ReadStop}
use Rattle.lwb_base.specs.declared.read.ReadStop.TheVariants.{ReadFault, TooLong, Memory}

-- a proper prefix of the text went out, and then the next piece of it
pub appends_more : (a b c : Option (List ℕ)) (text : List ℕ) (gone n : ℕ) → gone ≤ length text → Appends a b (take gone text)
    → Appends b c (take n (take (length text - gone) (drop gone text))) → Appends a c (take (gone + n) text)
appends_more a b c text gone n le p q =
    let rest : take (length text - gone) (drop gone text) ≡ drop gone text = take_all _ _ (omega (arith, length-drop gone text)) in
    subst (λ (l : List ℕ). Appends a c l) (sym (take-add gone n text)) (Appends-trans a b c _ _ p (subst (λ (l : List ℕ). Appends b c (take n l)) rest q))

-- where a piece stops the read, so does the whole
pub stops_after : (a b c : Option (List ℕ)) (had has : List ℕ) (stop : ReadStop) → length had ≤ 4194304 → Consumes a b had → ReadsPiece b c had has (Err stop)
    → ReadsAll a c (Err stop)
stops_after a b c had has ReadFault le p q = (had ++ [], Consumes-trans a b c had [] p q, omega (arith, length-append {A = ℕ}))
stops_after a b c had has TooLong le p q = (had ++ q.0, Consumes-trans a b c had q.0 p q.1, omega (arith, length-append had q.0, q.2))
stops_after a b c had has Memory le p q = (had ++ q.0, Consumes-trans a b c had q.0 p q.1, omega (arith, length-append had q.0, q.2))

-- the next n bytes are at the front of the room
pub moved_front : (whole room front : List ℕ) (at n : ℕ) → front ≡ take n (drop at whole) → n ≤ length (drop at whole)
    → drop at whole ≡ take n (front ++ drop n room) ++ drop (at + n) whole
moved_front whole room front at n is le =
    let long : length front ≡ n = ap length is ∙ length-take-le n (drop at whole) le in
    sym (take-append-drop n (drop at whole)) ∙ ap (λ (l : List ℕ). take n (drop at whole) ++ l) (drop-drop n at whole)
    ∙ ap (λ (l : List ℕ). l ++ drop (at + n) whole) (sym (take_at front (drop n room) n long ∙ is))

pub none_left : (whole : List ℕ) (at n most long : ℕ) → 0 < most → 0 < long → n ≡ min (min (length (drop at whole)) most) long → n ≡ 0
    → drop (at + n) whole ≡ []
none_left whole at n most long some room is none = nil_from_length (drop (at + n) whole) (omega (arith, length-drop (at + n) whole, length-drop at whole))
