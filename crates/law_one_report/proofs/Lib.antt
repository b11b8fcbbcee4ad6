mod FloodTexts
mod SameDecisions
mod SameRuns
mod SameReports
mod SameLosses
mod SamePlanReports
