-- What is remembered of a run between deliveries, on a tested area. What a reader must believe: Running (what the deliveries stand on) and Memory
-- (what is remembered). How the code comes by it: Noting (how what is remembered follows a delivery, and how it is filled). Laws: RunningLaws,
-- NotedLaws and FillLaws.
pub mod Running
pub mod Memory
pub mod Noting
pub mod RunningLaws
pub mod NotedLaws
pub mod FillLaws
