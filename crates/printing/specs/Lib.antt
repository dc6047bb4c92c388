-- The call that forms what the check program prints: Form. FormLaws: the answers of the call.
pub mod Form
pub mod FormLaws
pub mod Examples
