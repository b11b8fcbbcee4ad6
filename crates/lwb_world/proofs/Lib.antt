mod ListsOfTheBus
mod RunsOfTheBus
mod CoresOfNodes
mod StatedRuns
