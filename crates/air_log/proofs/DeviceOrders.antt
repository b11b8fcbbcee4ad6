-- The orders of a device, obeyed one after another.
use Rattle.std.proofs.Common.{◌≡◌, ℕ, zero, suc, ◌+◌, ◌≤◌, List, [], ◌∷◌, ◌++◌, drop, fold, length, Option, Some, None}
use Rattle.std.proofs.Common.{refl, sym, ◌∙◌, ap, subst, arith}
use Rattle.std.specs.Prelude.{All, option_map}
use Rattle.std.specs.List.{slice_get}
use Rattle.std.proofs.lemmas.List.{append_assoc, append-nil}
use Rattle.std.proofs.lemmas.Option.{slice_get_past}
use Rattle.std.proofs.lemmas.List.Sums.{fold-append}
use Rattle.std.proofs.lemmas.List.Elements.{All-head, All-tail}
use Rattle.lwb_base.specs.declared.order.Order.{Order}
use Rattle.lwb_base.specs.declared.order.Order.TheVariants.{Listen, Off}
use Rattle.lwb_base.proofs.Elements.{first_of, none_in}
use Rattle.air_log.specs.declared.event_radio.OrderRef.{OrderRef}
use Rattle.air_log.specs.EventOrders.{order_of}
use Rattle.air_log.specs.Devices.{obeyed}
use Rattle.air_log.specs.DeviceStates.{DeviceState, IsTimely}
use Rattle.air_log.specs.DeviceChanges.{DeviceGoes}
use Rattle.air_log.proofs.DeviceChanges.{goes_nothing, goes_then, goes_as, step_goes}
use Rattle.air_log.proofs.KeptTunings.{listens_retuned, off_retuned}

-- an order of its radio sets its channel
pub listen_goes : (clock : ℕ → ℕ) (t rank : ℕ) (s : DeviceState)
    → DeviceGoes t (λ q d. obeyed clock q.id t d (Listen rank)) s (record s { channel = Some rank }) []
listen_goes clock t rank s = step_goes t (λ q d. obeyed clock q.id t d (Listen rank)) s (record s { channel = Some rank }) (record {
  comes = λ x made on. listens_retuned clock s.setup.id t rank s x made;
  node = record { setup = refl; delivery = refl; windows = refl };
  busy = refl;
})

pub off_goes : (clock : ℕ → ℕ) (t : ℕ) (s : DeviceState) → DeviceGoes t (λ q d. obeyed clock q.id t d Off) s (record s { channel = None }) []
off_goes clock t s = step_goes t (λ q d. obeyed clock q.id t d Off) s (record s { channel = None }) (record {
  comes = λ x made on. off_retuned clock s.setup.id t s x made;
  node = record { setup = refl; delivery = refl; windows = refl };
  busy = refl;
})

-- of these orders a front has been obeyed, and the rest is left
pub record AreObeyed (clock : ℕ → ℕ) (t : ℕ) (all rest : List Order) (old new : DeviceState) : Type 0 where
  pub front : List Order
  pub split : front ++ rest ≡ all
  pub timely : All IsTimely rest
  pub goes : DeviceGoes t (λ q d. fold (obeyed clock q.id t) d front) old new []

module _ (clock : ℕ → ℕ) (t : ℕ) (all : List Order) where
  pub none_obeyed : (s : DeviceState) → All IsTimely all → AreObeyed clock t all all s s
  none_obeyed s timely = record { front = []; split = refl; timely = timely; goes = goes_nothing t s }

  pub next_is_timely : (rest : List Order) (order : Order) → slice_get rest 0 ≡ Some order → All IsTimely rest → IsTimely order
  next_is_timely rest order is timely = All-head IsTimely order (drop 1 rest) (subst (λ (l : List Order). All IsTimely l) (first_of rest order is) timely)

  pub one_more_obeyed : (rest : List Order) (order : Order) (a b c : DeviceState) → slice_get rest 0 ≡ Some order
      → AreObeyed clock t all rest a b → DeviceGoes t (λ q d. obeyed clock q.id t d order) b c [] → AreObeyed clock t all (drop 1 rest) a c
  one_more_obeyed rest order a b c is so goes = record {
    front = so.front ++ order ∷ [];
    split = append_assoc so.front (order ∷ []) (drop 1 rest) ∙ ap (λ (l : List Order). so.front ++ l) (sym (first_of rest order is)) ∙ so.split;
    timely = All-tail IsTimely order (drop 1 rest) (subst (λ (l : List Order). All IsTimely l) (first_of rest order is) so.timely);
    goes =
        goes_as t (λ q d. obeyed clock q.id t (fold (obeyed clock q.id t) d so.front) order) (λ q d. fold (obeyed clock q.id t) d (so.front ++ order ∷ [])) a c
        [] (λ q x made d sh. sym (fold-append (obeyed clock q.id t) d so.front (order ∷ [])))
        (goes_then t (λ q d. fold (obeyed clock q.id t) d so.front) (λ q d. obeyed clock q.id t d order) a b c [] [] so.goes goes);
  }

  pub all_obeyed : (rest : List Order) (a b : DeviceState) → slice_get rest 0 ≡ None → AreObeyed clock t all rest a b
      → DeviceGoes t (λ q d. fold (obeyed clock q.id t) d all) a b []
  all_obeyed rest a b is so =
      goes_as t (λ q d. fold (obeyed clock q.id t) d so.front) (λ q d. fold (obeyed clock q.id t) d all) a b []
      (λ q x made d sh.
      ap (fold (obeyed clock q.id t) d) (sym (append-nil so.front) ∙ ap (λ (l : List Order). so.front ++ l) (sym (none_in rest is)) ∙ so.split))
      so.goes

-- the orders that are left after this many
pub first_left : {X : Type 0} (xs : List X) (k : ℕ) → slice_get (drop k xs) 0 ≡ slice_get xs k
first_left xs zero = refl
first_left [] (suc k) = refl
first_left (x ∷ xs) (suc k) = first_left xs k

drop_one : {X : Type 0} (xs : List X) (k : ℕ) → drop 1 (drop k xs) ≡ drop (suc k) xs
drop_one xs zero = refl
drop_one [] (suc k) = refl
drop_one (x ∷ xs) (suc k) = drop_one xs k

pub next_left : {X : Type 0} (xs : List X) (k : ℕ) → drop 1 (drop k xs) ≡ drop (k + 1) xs
next_left xs k = let same : suc k ≡ k + 1 = omega arith in drop_one xs k ∙ ap (λ (n : ℕ). drop n xs) same

-- the order that is read at a place, after those before it have been obeyed
module _ (clock : ℕ → ℕ) (t : ℕ) (all : List Order) where
  next_of : (k : ℕ) (read : Option OrderRef) (x : OrderRef) → option_map order_of read ≡ slice_get all k → read ≡ Some x
      → slice_get (drop k all) 0 ≡ Some (order_of x)
  next_of k read x there is = first_left all k ∙ sym there ∙ ap (option_map order_of) is

  pub timely_at : (k : ℕ) (read : Option OrderRef) (x : OrderRef) (a b : DeviceState) → option_map order_of read ≡ slice_get all k → read ≡ Some x
      → AreObeyed clock t all (drop k all) a b → IsTimely (order_of x)
  timely_at k read x a b there is so = next_is_timely clock t all (drop k all) (order_of x) (next_of k read x there is) so.timely

  pub obeyed_at : (k : ℕ) (read : Option OrderRef) (x : OrderRef) (a b c : DeviceState) → option_map order_of read ≡ slice_get all k → read ≡ Some x
      → AreObeyed clock t all (drop k all) a b → DeviceGoes t (λ q d. obeyed clock q.id t d (order_of x)) b c []
      → AreObeyed clock t all (drop (k + 1) all) a c
  obeyed_at k read x a b c there is so goes =
      subst (λ (l : List Order). AreObeyed clock t all l a c) (next_left all k)
      (one_more_obeyed clock t all (drop k all) (order_of x) a b c (next_of k read x there is) so goes)

  -- and none is read there
  pub none_at : (k : ℕ) (read : Option OrderRef) (a b : DeviceState) → option_map order_of read ≡ slice_get all k → read ≡ None
      → AreObeyed clock t all (drop k all) a b → DeviceGoes t (λ q d. fold (obeyed clock q.id t) d all) a b []
  none_at k read a b there is so = all_obeyed clock t all (drop k all) a b (first_left all k ∙ sym there ∙ ap (option_map order_of) is) so

  -- or there are no more
  pub none_after : (k : ℕ) (a b : DeviceState) → length all ≤ k → AreObeyed clock t all (drop k all) a b
      → DeviceGoes t (λ q d. fold (obeyed clock q.id t) d all) a b []
  none_after k a b few so = all_obeyed clock t all (drop k all) a b (first_left all k ∙ slice_get_past all k few) so
