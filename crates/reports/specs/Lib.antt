-- What the inner functions of the report promise (Judging), and the laws of these (ReportLaws). What a report answers stands in the crate
-- area_calls, AreaCalls.
pub mod Judging
pub mod ReportLaws
