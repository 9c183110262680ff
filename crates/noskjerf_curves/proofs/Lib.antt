-- Laws of the curves of a state.
pub mod StateCurveLaws
