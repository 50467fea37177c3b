pub mod RuleTables
pub mod Quotes
pub mod RuleTexts
pub mod RuleEach
pub mod RuleSound
pub mod Written
pub mod RuleOne
pub mod RuleExamples
