-- Receptions that are in their order stay in it.
use Rattle.std.proofs.Common.{◌≡◌, ℕ, zero, suc, List, [], ◌∷◌, map, refl, ◌∙◌, ap, arith}
use Rattle.radio_model.specs.OnAir.{Hearing}
use Rattle.air_log.specs.declared.entry.Entry.{Entry}
use Rattle.air_log.specs.Lawful.{put_in, by_end, AreInTurn, reception_of, hearings_by, heard_by}

-- before those that do not come before it
put_first : (h : Hearing) (hs : List Hearing) → AreInTurn (h ∷ hs) → put_in h hs ≡ h ∷ hs
put_first h [] turn = refl
put_first h (g ∷ gs) turn = rw (turn zero 1 h (omega arith) (omega arith)) refl

pub stays : (hs : List Hearing) → AreInTurn hs → by_end hs ≡ hs
stays [] turn = refl
stays (h ∷ hs) turn =
    let rest = stays hs (λ i j d less within. turn (suc i) (suc j) d (omega (arith, less)) (omega (arith, within))) in
    ap (put_in h) rest ∙ put_first h hs turn

pub heard_in_turn : (air : List Entry) (v : ℕ) → AreInTurn (hearings_by air v) → heard_by air v ≡ map reception_of (hearings_by air v)
heard_in_turn air v turn = ap (map reception_of) (stays (hearings_by air v) turn)
