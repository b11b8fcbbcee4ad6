use Rattle.law_safety.proofs.AgreeingNodes.{agree_in_profile_one, agree_in_profile_two, heedful_nodes_agree, lawful_nodes_agree}
use Rattle.law_safety.proofs.agreement_laws.nodes_of_a_round_agree.Goals as goal

pub returns : goal.returns
returns c = record { heedful = heedful_nodes_agree; lawful = lawful_nodes_agree; first = agree_in_profile_one; second = agree_in_profile_two }
