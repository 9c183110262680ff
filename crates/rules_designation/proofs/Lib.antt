-- What the definitions mean, their laws, and worked cases.
pub mod DayLaws
pub mod PushLaws
pub mod SixtyDays
pub mod HourMarks
pub mod AfterCalls
pub mod CallAnswers
pub mod Worked
