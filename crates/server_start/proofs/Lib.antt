mod Counts
mod HallServices
