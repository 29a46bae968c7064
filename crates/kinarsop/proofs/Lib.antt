pub mod AsGiven
