pub mod Inputs
pub mod OneAnswer
pub mod WholeTexts
