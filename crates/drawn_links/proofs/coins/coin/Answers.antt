use Rattle.std.proofs.Common.{◌/◌, ◌^◌, ℕ, ◌∙◌, ap}
use Rattle.drawn_links.proofs.CoinStates.{coin_is}
use Rattle.drawn_links.proofs.coins.coin.Goals as goal

pub returns : goal.returns
returns c = λ seed is. ap (λ (n : ℕ). n / 2 ^ 11) c.output.ensures ∙ coin_is c.args.start c.args.key seed is
