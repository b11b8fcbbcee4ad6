pub mod LossesAdded
