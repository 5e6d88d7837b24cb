-- What a reader keeps between two pieces, and what its private functions answer. No clause of a public function has to be
-- believed by these: they say how it is done.
pub mod Answers
pub mod Pending
pub mod Latest
pub mod Progress
pub mod Sound
pub mod Latches
pub mod Stands
