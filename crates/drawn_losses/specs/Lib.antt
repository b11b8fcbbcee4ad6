pub mod StepLosses
