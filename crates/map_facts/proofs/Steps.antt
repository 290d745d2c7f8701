-- What steps of more than one machine rest on.
pub mod AloneCharts
pub mod CountsShards
pub mod PairsRemoved
pub mod PlacesChanged
pub mod RootSteps
pub mod StandsOut
pub mod TurnsFound
pub mod WentUnlinked
