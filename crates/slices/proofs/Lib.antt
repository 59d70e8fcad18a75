pub mod Again
pub mod OneSlice
pub mod Own
pub mod Stretches
pub mod SurveyOfLaws
