pub mod Examples
pub mod KindLaws
pub mod PlaceLaws
pub mod HeldLaws
pub mod StepLaws
pub mod MeasureLaws
pub mod OwnLaws
