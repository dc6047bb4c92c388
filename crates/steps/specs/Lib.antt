-- What a reader must believe of one process's step: Step; Paper is 002's step without second sums, which PaperLaws ties to it. Effect has
-- what a step does in numbers; StepLaws has laws of it, and EffectLaws in proofs the effect of every step.
pub mod Step
pub mod Paper
pub mod Effect
pub mod StepLaws
pub mod PaperLaws
