pub mod Items
pub mod Surveys
pub mod ListQuestions
