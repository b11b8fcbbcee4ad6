-- Of several values of a packet the first, and their number.
use Rattle.std.proofs.Common.{◌≡◌, ◌∷◌, [], ◌+◌, ◌<◌, ◌++◌, ℕ, List, Bool, true, false, cond, if◌then◌else◌, Option, Some, None, find, get_or, length}
use Rattle.std.proofs.Common.{take, count_by, is_some, refl, sym, ◌∙◌, ap, ⊎_elim}
use Rattle.std.proofs.lemmas.Bool.{cases_Bool, false≢true}
use Rattle.std.proofs.lemmas.List.{take_more}
use Rattle.std.proofs.lemmas.List.Sums.{sum_by_push}
use Rattle.std.proofs.lemmas.List.Folds.{find-append}
use Rattle.std.specs.Option.{option_or}
use Rattle.std.specs.BTreeMap.{is_at}
use Rattle.bus_terms.specs.Fates.{is_packet}
use Rattle.bus_terms.specs.declared.packets.PacketId.{PacketId}
use Rattle.packet_fates.specs.PacketOrder.{packet_cmp}
use Rattle.bus_terms.proofs.SamePackets.{packet_itself, same_packet}
use Rattle.packet_fates.proofs.PacketOrders.{packet_tied}

-- of one element more
pub find_more : {X : Type 0} (p : X → Bool) (xs : List X) (i : ℕ) (x : X) → i < length xs → x ≡ get_or xs i x
    → find p (take (i + 1) xs) ≡ option_or (find p (take i xs)) (if p x then Some x else None)
find_more p xs i x below at =
    ap (find p) (take_more xs i x below ∙ ap (λ (y : _). take i xs ++ y ∷ []) (sym at)) ∙ find-append p (take i xs) (x ∷ [])

pub count_more : {X : Type 0} (p : X → Bool) (xs : List X) (i : ℕ) (x : X) → i < length xs → x ≡ get_or xs i x
    → count_by p (take (i + 1) xs) ≡ count_by p (take i xs) + cond (p x) 1 0
count_more p xs i x below at =
    ap (count_by p) (take_more xs i x below ∙ ap (λ (y : _). take i xs ++ y ∷ []) (sym at)) ∙ sum_by_push (λ (y : _). cond (p y) 1 0) (take i xs) x

pub packet_flips : (x y : PacketId) → is_packet x y ≡ false → is_packet y x ≡ false
packet_flips x y not = by_case (is_packet y x) refl
  where
    by_case : (b : Bool) → is_packet y x ≡ b → b ≡ false
    by_case false is = refl
    by_case true is = sym (packet_itself x) ∙ ap (is_packet x) (sym (same_packet y x is)) ∙ not

-- where a map has w at the packet k from now on, and is as before elsewhere
module _ {T : Type 0} (before after : PacketId → Option T) (k : PacketId) (w : T) (written : (x : PacketId) → after x
    ≡ cond (is_at (packet_cmp k) x) (Some w) (before x)) where
  pub written_here : after k ≡ Some w
  written_here = written k ∙ ap (λ (b : Bool). cond b (Some w) (before k)) (sym (packet_tied k k) ∙ packet_itself k)

  pub written_elsewhere : (x : PacketId) → is_packet x k ≡ false → after x ≡ before x
  written_elsewhere x other = written x ∙ ap (λ (b : Bool). cond b (Some w) (before x)) (sym (packet_tied k x) ∙ packet_flips x k other)

some_kept : {T : Type 0} (o p : Option T) → is_some o ≡ true → o ≡ option_or o p
some_kept None p some = absurd (false≢true some)
some_kept (Some y) p some = refl

none_added : {T : Type 0} (o : Option T) → o ≡ option_or o None
none_added None = refl
none_added (Some y) = refl

module _ {T : Type 0} (before : PacketId → Option T) (k : PacketId) (v : T) where
  -- the packet has a value
  pub had_first : is_some (before k) ≡ true → (x : PacketId) → before x ≡ option_or (before x) (if is_packet x k then Some v else None)
  had_first some x = ⊎_elim here elsewhere (cases_Bool (is_packet x k))
    where
      here : is_packet x k ≡ true → before x ≡ option_or (before x) (if is_packet x k then Some v else None)
      here same = some_kept (before x) _ (ap (λ (y : PacketId). is_some (before y)) (same_packet x k same) ∙ some)

      elsewhere : is_packet x k ≡ false → before x ≡ option_or (before x) (if is_packet x k then Some v else None)
      elsewhere other = none_added (before x) ∙ ap (λ (b : Bool). option_or (before x) (if b then Some v else None)) (sym other)

  -- it has this one now
  pub new_first : (after : PacketId → Option T) → is_some (before k) ≡ false → ((x : PacketId) → after x ≡ cond (is_at (packet_cmp k) x) (Some v) (before x))
      → (x : PacketId) → after x ≡ option_or (before x) (if is_packet x k then Some v else None)
  new_first after none written x = ⊎_elim here elsewhere (cases_Bool (is_packet x k))
    where
      none_of : (o : Option T) → is_some o ≡ false → Some v ≡ option_or o (Some v)
      none_of None is = refl
      none_of (Some y) is = absurd (false≢true (sym is))

      here : is_packet x k ≡ true → after x ≡ option_or (before x) (if is_packet x k then Some v else None)
      here same =
          ap after (same_packet x k same) ∙ written_here before after k v written ∙ none_of (before k) none
          ∙ ap (λ (y : PacketId). option_or (before y) (Some v)) (sym (same_packet x k same))
          ∙ ap (λ (b : Bool). option_or (before x) (if b then Some v else None)) (sym same)

      elsewhere : is_packet x k ≡ false → after x ≡ option_or (before x) (if is_packet x k then Some v else None)
      elsewhere other =
          written_elsewhere before after k v written x other ∙ none_added (before x)
          ∙ ap (λ (b : Bool). option_or (before x) (if b then Some v else None)) (sym other)
