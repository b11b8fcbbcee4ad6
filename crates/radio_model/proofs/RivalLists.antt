-- Lists of rivals, one more at a time.
use Rattle.std.proofs.Common.{◌≡◌, ◌≤◌, ℕ, List, [], ◌∷◌, ◌++◌, length, take, Option, Some, None, option_to_list}
use Rattle.std.proofs.Common.{filter_map, sym, ◌∙◌, ap, append-nil}
use Rattle.std.proofs.lemmas.List.{take_all}
use Rattle.std.proofs.lemmas.List.Elements.{filter_map-append}
use Rattle.lwb_base.proofs.Lists.{one_kept}
use Rattle.lwb_base.specs.Profile.{Numbers}
use Rattle.radio_model.specs.Meetings.{rival_to, rivals_in}
use Rattle.radio_model.specs.declared.sending.Sending.{Sending}
use Rattle.radio_model.specs.declared.station.Station.{Station}
use Rattle.radio_model.specs.declared.rivals.Rival.{Rival}

-- a station whose ended transmissions have all been looked at, and which sends, or does not
module _ (p : Numbers) (x : Sending) (st : Station) (i : ℕ) (all : length st.ended.items ≤ i) where
  pub rivals_sending : (y : Sending) → st.sending ≡ Some y
      → rivals_in p x st ≡ filter_map (rival_to p x st) (take i st.ended.items) ++ option_to_list (rival_to p x st y)
  rivals_sending y is =
      let f = rival_to p x st in
      let ended = st.ended.items in
      ap (λ (o : Option Sending). filter_map f (ended ++ option_to_list o)) is ∙ filter_map-append f ended (y ∷ [])
      ∙ ap (λ (l : List Sending). filter_map f l ++ filter_map f (y ∷ [])) (sym (take_all i ended all))
      ∙ ap (λ (l : List Rival). filter_map f (take i ended) ++ l) (one_kept f y)

  pub rivals_ended : st.sending ≡ None → rivals_in p x st ≡ filter_map (rival_to p x st) (take i st.ended.items)
  rivals_ended none =
      ap (λ (o : Option Sending). filter_map (rival_to p x st) (st.ended.items ++ option_to_list o)) none
      ∙ ap (filter_map (rival_to p x st)) (append-nil st.ended.items ∙ sym (take_all i st.ended.items all))
